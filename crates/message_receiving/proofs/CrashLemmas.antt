-- What a crash leaves after a message that has an id.
use Rattle.std.proofs.Common.{◌≡◌, ◌≤◌, ◌<◌, ◌+◌, ℕ, List, ◌∷◌, [], ◌++◌, Option, refl, sym, ap, subst, ◌∙◌, take, drop, length, get_or}
use Rattle.bug_record.specs.Desk.{Desk}
use Rattle.bug_record.specs.Words.{Names}
use Rattle.bug_record.specs.declared.command.Change.{Change}
use Rattle.bug_record.specs.declared.outcome.Outcome.{Outcome}
use Rattle.base_faults.specs.declared.store_fault.End.{End}
use Rattle.base_faults.specs.declared.store_fault.End.TheVariants as ends
use Rattle.base_faults.specs.declared.store_fault.StoreFault.{StoreFault}
use Rattle.control_grammar.specs.Lines.{reading}
use Rattle.control_lines.specs.Lines.{lines_of}
use Rattle.store_contract.specs.Progress.{HaveNumbers}
use Rattle.store_contract.proofs.EndLemmas.{never_store}
use Rattle.message_receiving.specs.Taking.{IsDecision}
use Rattle.message_receiving.specs.declared.command_decision.Decision.{Decision}
use Rattle.store_contract.specs.Crashes.{Holding}
use Rattle.store_contract.specs.Store.{Holds, Asks, with_change}
use Rattle.store_contract.proofs.HoldsLemmas.{holds_both}
use Rattle.store_contract.specs.Message.{Entry, Machine, machine, after_lines, takes, end_of}
use Rattle.store_contract.specs.Kept.{Keeping, lines_told, told, outcomes_in, outcomes_kept, kept_with, kept_also}
use Rattle.message_receiving.specs.GoingOn.{IsBegun}
use Rattle.message_receiving.specs.Crashes.{LeavesTried, held_by, resumed_to, tried_once}
use Rattle.message_receiving.proofs.KeepLemmas.{keeps-also, kept-own}
use Rattle.message_receiving.proofs.GoingLemmas.{Going, after-more, length-outcomes, carry}

-- a question, and what a crash leaves after it
pub asked_left : {S : Type 0} {k h : S → Type 0} {l : S → Holding → Holding → Type 0} {b c : S} {Q : Type 0} → Asks k h l b c Q
    → Holds k h b c (Q × ((x y : Holding) → l b x y → l c x y))
asked_left y = record { honest = y.holds.honest; kept = y.holds.kept; fact = λ u w. (y.holds.fact u w, y.left w) }

-- two things that one call says
pub holds_pair : {S : Type 0} {k h : S → Type 0} {a b : S} {P Q : Type 0} → Holds k h a b P → Holds k h a b Q → Holds k h a b (P × Q)
holds_pair x y = record { honest = x.honest; kept = x.kept; fact = λ u w. (x.fact u w, y.fact u w) }

-- a question, whatever is tried after it
pub asked_once : {S : Type 0} (leaves : S → Holding → Holding → Type 0) → ((s : S) (x y : Holding) → leaves s x x → leaves s x y)
    → (a b : S) (d d1 : Desk) (k k1 : Keeping) (tried : Holding) → d1 ≡ d → k1 ≡ k → ((x y : Holding) → leaves a x y → leaves b x y)
    → LeavesTried leaves a b (d, k) (d1, k1) tried
asked_once leaves either a b d d1 k k1 tried asked_d asked_k left = λ alone.
    either b (d1, k1) tried (subst (λ (z : Holding). leaves b z z) (λ i. (sym asked_d i, sym asked_k i)) (left (d, k) (d, k) alone))

-- a question, and then a step that failed
pub left_failed : {S : Type 0} (leaves : S → Holding → Holding → Type 0) (a b c : S) (d d1 d2 : Desk) (k k1 k2 : Keeping)
    (after tried : Holding) → d1 ≡ d → k1 ≡ k → d2 ≡ d1 → k2 ≡ k1 → after ≡ tried → ((x y : Holding) → leaves a x y → leaves b x y)
    → ((before : Holding) → leaves b before before → leaves c before after) → LeavesTried leaves a c (d, k) (d2, k2) tried
left_failed leaves a b c d d1 d2 k k1 k2 after tried asked_d asked_k failed_d failed_k is left step = λ alone.
    subst (λ (z : Holding). leaves c z tried) (λ i. (sym (failed_d ∙ asked_d) i, sym (failed_k ∙ asked_k) i))
    (subst (leaves c (d, k)) is (step (d, k) (left (d, k) (d, k) alone)))

-- a step that was made
pub left_made : {S : Type 0} (leaves : S → Holding → Holding → Type 0) (a c : S) (before : Holding) (d made : Desk) (k kept : Keeping)
    → d ≡ made → k ≡ kept → leaves c (made, kept) (made, kept) → LeavesTried leaves a c before (d, k) (d, k)
left_made leaves a c before d made k kept is_d is_k x = λ alone.
    subst (λ (z : Holding). leaves c z z) (λ i. (sym is_d i, sym is_k i)) x

-- the same, since an earlier moment
pub made_since : {S : Type 0} (leaves : S → Holding → Holding → Type 0) (kept honest : S → Type 0) (earlier a c : S)
    (before : Holding) (d made : Desk) (k also : Keeping) → Holds kept honest earlier c ((d ≡ made) × (k ≡ also))
    → Holds kept honest earlier c (leaves c (made, also) (made, also))
    → Holds kept honest earlier c (LeavesTried leaves a c before (d, k) (d, k))
made_since leaves kept honest earlier a c before d made k also x y = record {
  honest = x.honest;
  kept = x.kept;
  fact = λ u w. left_made leaves a c before d made k also (x.fact u w).0 (x.fact u w).1 (y.fact u w);
}

-- a question, and then the message
pub left_once : {S : Type 0} (leaves : S → Holding → Holding → Type 0) (a b c : S) (id sender message : List ℕ) (d d1 : Desk)
    (k k1 : Keeping) (end : End) (now : Holding) → d1 ≡ d → k1 ≡ k → ((x y : Holding) → leaves a x y → leaves b x y)
    → LeavesTried leaves b c (d1, k1) now (tried_once id sender message (d1, k1) end now)
    → LeavesTried leaves a c (d, k) now (tried_once id sender message (d, k) end now)
left_once leaves a b c id sender message d d1 k k1 end now asked_d asked_k left x = λ alone.
    subst (λ (z : Holding). LeavesTried leaves b c z now (tried_once id sender message z end now)) (λ i. (asked_d i, asked_k i)) x
    (left (d, k) (d, k) alone)

-- what a decided line comes to, kept
pub tried_line : (id sender message line : List ℕ) (k k1 first : Keeping) (d d1 : Desk) (before : List Entry) (known : Names)
    (decision : Decision) (change : Option Change) → IsBegun id sender message k before known → IsDecision sender d before line decision
    → k1 ≡ k → d1 ≡ d → change ≡ decision.change → k ≡ kept_with id sender message (outcomes_in before) first
    → (with_change change d1, kept_also id sender message decision.outcome k1)
    ≡ held_by id sender message first (takes sender (machine d before) line (reading line))
tried_line id sender message line k k1 first d d1 before known decision change b h same_kept same is at_first =
    let m : Machine = takes sender (machine d before) line (reading line) in
    let desk : with_change change d1 ≡ m.desk =
    (λ i. with_change (is i) (same i)) ∙ ap (λ (z : Machine). z.desk) (sym h.takes_line) in
    let outs : m.outcomes ≡ before ++ (line, decision.outcome) ∷ [] = ap (λ (z : Machine). z.outcomes) h.takes_line in
    let kept : kept_also id sender message decision.outcome k1 ≡ kept_with id sender message (outcomes_in m.outcomes) first =
    ap (kept_also id sender message decision.outcome) same_kept
    ∙ keeps-also id sender message k (kept_also id sender message decision.outcome k) before m.outcomes line decision.outcome b.kept_are
    refl outs first at_first in
    λ i. (desk i, kept i)

-- a line at which the store failed, since an earlier moment
pub failed_since : {S : Type 0} (leaves : S → Holding → Holding → Type 0) (kept honest : S → Type 0) (earlier a b c : S)
    (id sender message line : List ℕ) (k k1 now : Keeping) (d d1 new : Desk) (before : List Entry) (known named : Names)
    (decision : Decision) (change : Option Change) → k1 ≡ k → change ≡ decision.change
    → Holds kept honest earlier a (IsBegun id sender message k before known)
    → Asks kept honest leaves a b ((HaveNumbers known → IsDecision sender d before line decision × HaveNumbers named) × (d1 ≡ d))
    → Holds kept honest earlier c ((new ≡ d1) × (now ≡ k1))
    → Holds kept honest earlier c ((old : Holding) → leaves b old old
    → leaves c old (with_change change d1, kept_also id sender message decision.outcome k1))
    → (honest c → honest b)
    → Holds kept honest earlier c ((first : Keeping) → k ≡ kept_with id sender message (outcomes_in before) first
    → LeavesTried leaves a c (d, k) (new, now)
    (held_by id sender message first (takes sender (machine d before) line (reading line))))
failed_since leaves kept honest earlier a b c id sender message line k k1 now d d1 new before known named decision change stays is x y z left back =
    carry (holds_both x (asked_left y)) (holds_pair z left) back
    (λ p q first at_first.
    left_failed leaves a b c d d1 new k k1 now (with_change change d1, kept_also id sender message decision.outcome k1)
    (held_by id sender message first (takes sender (machine d before) line (reading line))) p.1.0.1 stays q.0.0 q.0.1
    (tried_line id sender message line k k1 first d d1 before known decision change p.0 (p.1.0.0 p.0.numbers).0 stays p.1.0.1 is at_first)
    p.1.1 q.1)

-- what was kept as the message began
pub own_first : (id sender message : List ℕ) (k : Keeping) (before : List Entry) (known : Names) → IsBegun id sender message k before known
    → k ≡ kept_with id sender message (outcomes_in before) k
own_first id sender message k before known b =
    kept-own id sender message k b.same ∙ ap (λ (w : List Outcome). kept_with id sender message w k) b.kept_are

-- the line at which the store failed, taken too
pub tried_failed : (id sender message line : List ℕ) (d now : Desk) (k know : Keeping) (before so_far : List Entry)
    (first_known known : Names) (fault : StoreFault) (lines : List (List ℕ)) (i : ℕ) (end : End) (held : Holding)
    → lines ≡ lines_of message → end ≡ ends.Store fault (i + 1) → i < length lines → line ≡ get_or lines i line
    → length before ≤ length (lines_told (take i lines)) → end_of so_far ≡ ends.All → IsBegun id sender message k before first_known
    → Going id sender message d now k know before so_far known (drop (length before) (lines_told (take i lines)))
    → held_by id sender message k (takes sender (machine now so_far) line (reading line)) ≡ tried_once id sender message (d, k) end held
tried_failed id sender message line d now k know before so_far first_known known fault lines i end held ls is lt at le on b g =
    let one : after_lines sender (machine d before) (drop (length before) (lines_told (take (i + 1) lines)))
    ≡ takes sender (machine now so_far) line (reading line) =
    after-more sender line (machine d before) (machine now so_far) (takes sender (machine now so_far) line (reading line)) lines
    (length before) i lt at le on g.after_rest refl in
    let base : told (lines_of message) (outcomes_kept (k id)) ≡ before = ap (told (lines_of message)) b.kept_are ∙ b.told_are in
    let count : length (outcomes_kept (k id)) ≡ length before = ap length b.kept_are ∙ length-outcomes before in
    let whole : resumed_to sender (lines_of message) (outcomes_kept (k id)) d (i + 1)
    ≡ takes sender (machine now so_far) line (reading line) =
    (λ j. after_lines sender (machine d (base j)) (drop (count j) (lines_told (take (i + 1) (sym ls j))))) ∙ one in
    ap (held_by id sender message k) (sym whole) ∙ ap (λ (e : End). tried_once id sender message (d, k) e held) (sym is)

-- a message that the store did not end has tried nothing else
pub once_settled : (id sender message : List ℕ) (before now : Holding) (es : List Entry) (end : End) → end_of es ≡ end
    → tried_once id sender message before end now ≡ now
once_settled id sender message before now es ends.All h = refl
once_settled id sender message before now es ends.Stopped h = refl
once_settled id sender message before now es ends.TooManyUnreadable h = refl
once_settled id sender message before now es (ends.Store fault k) h = absurd (never_store es fault k h)
