-- What a message that has an id is answered.
use Rattle.std.proofs.Common.{◌≡◌, ℕ, false, List, Option, refl, sym, ap, subst, ◌∙◌, ◌≤◌, ◌+◌, arith, take, drop, length, length-append}
use Rattle.bug_record.specs.Desk.{Desk}
use Rattle.bug_record.specs.Words.{Names}
use Rattle.control_lines.specs.Lines.{lines_of}
use Rattle.store_contract.specs.Progress.{goes_on}
use Rattle.message_receiving.proofs.MachineLemmas.{after_ended}
use Rattle.bug_record.specs.declared.outcome.Outcome.{Outcome}
use Rattle.base_faults.specs.declared.store_fault.End.{End}
use Rattle.base_words.specs.Ids.{IsId}
use Rattle.store_contract.specs.Message.{Entry, machine, end_of, known_names}
use Rattle.store_contract.specs.Kept.{Keeping, lines_told, told, outcomes_in, outcomes_kept, kept_with, IsOfMessage, IsResumed, AreGoodKept}
use Rattle.store_contract.specs.declared.kept.Kept.{Kept}
use Rattle.message_receiving.specs.GoingOn.{IsBegun, Resumes}
use Rattle.message_recall.specs.Recalling.{AreOfLines, IsTaken}
use Rattle.message_receiving.proofs.KeepLemmas.{begins, kept-own, of_lines}
use Rattle.message_receiving.proofs.GoingLemmas.{resumed-ended, length-outcomes}
use Rattle.message_recall.proofs.ToldLemmas.{lines-split}
use Rattle.message_receiving.proofs.ToldLemmas.{zip-seconds}

-- the outcomes that were recalled are those of the message, as it begins
pub recalled-begins : (id sender message : List ℕ) (k k1 : Keeping) (known : Option Kept) (lines : List (List ℕ)) (shown : List Outcome)
    (outs : List Entry) (names : Names) → AreGoodKept k → known ≡ k id → IsOfMessage sender message known → k1 ≡ k
    → lines ≡ lines_of message → shown ≡ outcomes_kept known → outs ≡ told lines shown → names ≡ known_names outs
    → IsBegun id sender message k1 outs names
recalled-begins id sender message k k1 known lines shown outs names good is same stays ls os told_is named =
    subst (λ (z : Keeping). IsBegun id sender message z outs names) (sym stays)
    (begins id sender message k outs names (subst (IsOfMessage sender message) is same) (λ kk e. (good id kk e).1)
    (told_is ∙ (λ i. told (ls i) ((os ∙ ap outcomes_kept is) i))) named)

-- outcomes that were kept can be those of the message
pub never_mismatch : (id sender message : List ℕ) (k : Keeping) (known : Option Kept) (lines : List (List ℕ)) (shown : List Outcome)
    → AreGoodKept k → known ≡ k id → IsOfMessage sender message known → lines ≡ lines_of message → shown ≡ outcomes_kept known
    → AreOfLines lines shown
never_mismatch id sender message k known lines shown good is same ls os =
    subst (λ (w : List (List ℕ)). AreOfLines w shown) (sym ls)
    (subst (AreOfLines (lines_of message)) (sym (os ∙ ap outcomes_kept is))
    (of_lines sender message (k id) (subst (IsOfMessage sender message) is same) (λ kk e. (good id kk e).1)))

-- what is kept of an id, and can't be this message's, is of another sender or another text
pub reused : (id sender message : List ℕ) (k : Keeping) (known : Option Kept) → AreGoodKept k → known ≡ k id
    → (IsOfMessage sender message known → AreOfLines (lines_of message) (outcomes_kept known) → ⊥)
    → ¬ IsOfMessage sender message (k id)
reused id sender message k known good is none = λ same.
    let here = subst (IsOfMessage sender message) (sym is) same in
    none here (never_mismatch id sender message k known (lines_of message) (outcomes_kept known) good is here refl refl)

-- where the recalled outcomes end the message
pub once-ended : (id sender message : List ℕ) (d d1 : Desk) (k k1 : Keeping) (known : Option Kept) (outs outcomes : List Entry)
    (names : Names) (end : End) → IsId id → known ≡ k id → IsOfMessage sender message known → IsBegun id sender message k outs names
    → end_of outs ≡ end → goes_on end ≡ false → outcomes ≡ outs → d1 ≡ d → k1 ≡ k
    → IsId id × IsOfMessage sender message (k id)
    × IsResumed sender (lines_of message) (outcomes_kept (k id)) d outcomes end d1
    × (k1 ≡ kept_with id sender message (outcomes_in outcomes) k)
once-ended id sender message d d1 k k1 known outs outcomes names end good is same b ended stops e stay stays = (
  good,
  subst (IsOfMessage sender message) is same,
  resumed-ended sender (lines_of message) (outcomes_kept (k id)) d d1 outcomes end (ap end_of e ∙ ended)
      (after_ended sender (machine d (told (lines_of message) (outcomes_kept (k id))))
      (drop (length (outcomes_kept (k id))) (lines_told (lines_of message))) (ap goes_on (ap end_of base ∙ ended) ∙ stops)
      ∙ (λ i. machine (sym stay i) ((base ∙ sym e) i))),
  stays ∙ (kept-own id sender message k b.same
      ∙ ap (λ (w : List Outcome). kept_with id sender message w k) (b.kept_are ∙ ap outcomes_in (sym e))),
)
  where
    base : told (lines_of message) (outcomes_kept (k id)) ≡ outs
    base = ap (told (lines_of message)) b.kept_are ∙ b.told_are

-- where it went on
pub once-resumed : (id sender message : List ℕ) (d d1 new : Desk) (k k1 now : Keeping) (known : Option Kept) (outs outcomes : List Entry)
    (names : Names) (end : End) → IsId id → known ≡ k id → IsOfMessage sender message known → IsBegun id sender message k outs names
    → d1 ≡ d → k1 ≡ k → Resumes id sender message d1 new k1 now outs outcomes end
    → IsId id × IsOfMessage sender message (k id)
    × IsResumed sender (lines_of message) (outcomes_kept (k id)) d outcomes end new
    × (now ≡ kept_with id sender message (outcomes_in outcomes) k)
once-resumed id sender message d d1 new k k1 now known outs outcomes names end good is same b stay stays r = (
  good,
  subst (IsOfMessage sender message) is same,
  subst (λ (w : List Outcome). IsResumed sender (lines_of message) w d outcomes end new) (sym b.kept_are)
      (subst (λ (z : Desk). IsResumed sender (lines_of message) (outcomes_in outs) z outcomes end new) stay r.resumed),
  r.keeps k (stays ∙ (kept-own id sender message k b.same ∙ ap (λ (w : List Outcome). kept_with id sender message w k) b.kept_are)),
)

-- as many lines are recalled as outcomes
pub all-recalled : (lines : List (List ℕ)) (shown : List Outcome) (n : ℕ) (outs : List Entry) → IsTaken lines shown n
    → outs ≡ told lines shown → length (lines_told (take n lines)) ≡ length outs
all-recalled lines shown n outs taken is =
    let all = taken.all in
    let split : length (lines_told lines) ≡ length (lines_told (take n lines)) + length (lines_told (drop n lines)) =
    ap length (lines-split lines n) ∙ length-append (lines_told (take n lines)) (lines_told (drop n lines)) in
    let few : length shown ≤ length (lines_told lines) = omega (arith, all, split) in
    all ∙ (ap length (sym (zip-seconds (lines_told lines) shown few)) ∙ (length-outcomes (told lines shown) ∙ ap length (sym is)))
