-- What is kept of an id after calls.
use Rattle.std.proofs.Common.{◌≡◌, ℕ, true, false, List, [], ◌∷◌, ◌++◌, length, map, take, drop, Option, Some, None}
use Rattle.std.proofs.Common.{refl, ap, sym, ◌∙◌, subst, inl, inr, append-nil, append_assoc}
use Rattle.std.specs.Str.{bytes_eq}
use Rattle.std.proofs.lemmas.Bool.{cases_Bool, cond-true, cond-false}
use Rattle.bug_record.proofs.PackageLemmas.{same_name}
use Rattle.control_lines.specs.Lines.{lines_of}
use Rattle.bug_record.specs.declared.outcome.Outcome.{Outcome}
use Rattle.store_contract.specs.Message.{Entry}
use Rattle.store_contract.specs.Kept.{Keeping, outcomes_kept, outcomes_in, lines_told, told, kept_with, IsOfMessage}
use Rattle.store_contract.specs.declared.kept.Kept.{Kept}
use Rattle.desk_run.specs.Calls.{State, Call, Other, Sent, Took, Does, InTurn, taken_by, taken_in, told_of, IsSameMessage}
use Rattle.desk_run.proofs.ZipLemmas.{zip-none, zip-append, zip-parts}

-- what is kept after more outcomes: of another id the same
other_stays : (id sender message other : List ℕ) (outcomes : List Outcome) (kept : Keeping) → bytes_eq id other ≡ false
    → kept_with id sender message outcomes kept other ≡ kept other
other_stays id sender message other [] kept e = refl
other_stays id sender message other (outcome ∷ outcomes) kept e = cond-false (bytes_eq id other) _ _ e

-- the lines with kept outcomes, of a message with more outcomes
told_more : (message : List ℕ) (kept : List Outcome) (taken : List Entry)
    → map (λ entry. entry.0) taken ≡ take (length taken) (drop (length kept) (lines_told (lines_of message)))
    → told (lines_of message) (kept ++ outcomes_in taken) ≡ told (lines_of message) kept ++ taken
told_more message kept taken next =
    zip-append (lines_told (lines_of message)) kept (outcomes_in taken)
    ∙ ap (λ l. told (lines_of message) kept ++ l) (zip-parts taken (drop (length kept) (lines_told (lines_of message))) next)

-- of a message that this is kept of
told_here : (sender message : List ℕ) (o : Option Kept) → IsOfMessage sender message o
    → told (lines_of message) (outcomes_kept o) ≡ told_of o
told_here sender message None same = zip-none (lines_told (lines_of message)) [] refl
told_here sender message (Some k) same = ap (λ m. told (lines_of m) k.outcomes) (sym same.1)

none_in : (taken : List Entry) → outcomes_in taken ≡ [] → taken ≡ []
none_in [] e = refl
none_in (entry ∷ taken) e = absurd (cc)

-- what is kept of the id itself
here_with : (id other sender message : List ℕ) (outcomes : List Outcome) (kept : Keeping) → bytes_eq id other ≡ true
    → (P : Option Kept → Type 0) → (outcomes ≡ [] → P (kept other))
    → P (Some (record { from = sender; message = message; outcomes = outcomes }))
    → P (kept_with id sender message outcomes kept other)
here_with id other sender message [] kept e P none some = none refl
here_with id other sender message (outcome ∷ outcomes) kept e P none some =
    subst P (sym (cond-true (bytes_eq id other) _ _ e)) some

-- no outcome at all
none_all : (xs : List Outcome) (taken : List Entry) → xs ++ outcomes_in taken ≡ [] → taken ≡ []
none_all [] taken e = none_in taken e
none_all (x ∷ xs) taken e = absurd (cc)

-- a call that took lines of the id's message
took_here : (id other sender message : List ℕ) (taken : List Entry) (old new : State) → bytes_eq other id ≡ true → other ≡ id
    → Took other sender message taken old new → told_of (new.1 id) ≡ told_of (old.1 id) ++ taken
took_here id other sender message taken old new e same t =
    let was = outcomes_kept (old.1 other) in
    ap (λ (k : Keeping). told_of (k id)) t.kept
    ∙ here_with other id sender message (was ++ outcomes_in taken) old.1 e
    (λ o. told_of o ≡ told_of (old.1 id) ++ taken)
    (λ none. sym (ap (λ l. told_of (old.1 id) ++ l) (none_all was taken none) ∙ append-nil (told_of (old.1 id))))
    (told_more message was taken t.next
    ∙ ap (λ l. l ++ taken) (told_here sender message (old.1 other) t.same ∙ ap (λ i. told_of (old.1 i)) same))

itself : (o : Option Kept) → IsSameMessage o o
itself None = tt
itself (Some k) = (k, refl, refl, refl)

-- the message stays
stays_here : (id other sender message : List ℕ) (outcomes : List Outcome) (kept : Keeping) → bytes_eq other id ≡ true → other ≡ id
    → IsOfMessage sender message (kept other) → IsSameMessage (kept id) (kept_with other sender message outcomes kept id)
stays_here id other sender message outcomes kept e same of =
    here_with other id sender message outcomes kept e (IsSameMessage (kept id)) (λ none. itself (kept id))
    (by (kept id) (subst (λ i. IsOfMessage sender message (kept i)) same of))
  where
    by : (o : Option Kept) → IsOfMessage sender message o
        → IsSameMessage o (Some (record { from = sender; message = message; outcomes = outcomes }))
    by None of = tt
    by (Some k) of = (record { from = sender; message = message; outcomes = outcomes }, refl, sym of.0, sym of.1)

-- one call
call_takes : (id : List ℕ) (call : Call) (old new : State) → Does call old new → told_of (new.1 id) ≡ told_of (old.1 id) ++ taken_by id call
call_takes id Other old new same = ap (λ (k : Keeping). told_of (k id)) same ∙ sym (append-nil (told_of (old.1 id)))
call_takes id (Sent other sender message taken) old new t =
    elim (cases_Bool (bytes_eq other id)) [
      | inl e ↦
          took_here id other sender message taken old new e (same_name other id e) t
          ∙ ap (λ l. told_of (old.1 id) ++ l) (sym (cond-true (bytes_eq other id) taken [] e))
      | inr e ↦
          ap (λ (k : Keeping). told_of (k id)) t.kept
          ∙ ap told_of (other_stays other sender message id (outcomes_kept (old.1 other) ++ outcomes_in taken) old.1 e)
          ∙ sym (ap (λ l. told_of (old.1 id) ++ l) (cond-false (bytes_eq other id) taken [] e) ∙ append-nil (told_of (old.1 id)))
    ]

call_stays : (id : List ℕ) (call : Call) (old new : State) → Does call old new → IsSameMessage (old.1 id) (new.1 id)
call_stays id Other old new same = subst (λ (k : Keeping). IsSameMessage (old.1 id) (k id)) (sym same) (itself (old.1 id))
call_stays id (Sent other sender message taken) old new t =
    let outcomes = outcomes_kept (old.1 other) ++ outcomes_in taken in
    subst (λ (k : Keeping). IsSameMessage (old.1 id) (k id)) (sym t.kept) (elim (cases_Bool (bytes_eq other id)) [
      | inl e ↦ stays_here id other sender message outcomes old.1 e (same_name other id e) t.same
      | inr e ↦ subst (IsSameMessage (old.1 id)) (sym (other_stays other sender message id outcomes old.1 e)) (itself (old.1 id))
    ])

then_same : (a b c : Option Kept) → IsSameMessage a b → IsSameMessage b c → IsSameMessage a c
then_same None b c p q = tt
then_same (Some k) None c p q = absurd (let h = p.1 in cc)
then_same (Some k) (Some l) c p q =
    let is : l ≡ p.0 = cc in
    (q.0, q.1, q.2 ∙ ap (λ (x : Kept). x.from) is ∙ p.2, q.3 ∙ ap (λ (x : Kept). x.message) is ∙ p.3)

-- calls, one after another
pub acts_once : (id : List ℕ) (calls : List Call) (old new : State) → InTurn calls old new
    → told_of (new.1 id) ≡ told_of (old.1 id) ++ taken_in id calls
acts_once id [] old new same = ap (λ (s : State). told_of (s.1 id)) same ∙ sym (append-nil (told_of (old.1 id)))
acts_once id (call ∷ calls) old new turns =
    acts_once id calls turns.0 new turns.2
    ∙ ap (λ l. l ++ taken_in id calls) (call_takes id call old turns.0 turns.1)
    ∙ append_assoc (told_of (old.1 id)) (taken_by id call) (taken_in id calls)

pub stays_same : (id : List ℕ) (calls : List Call) (old new : State) → InTurn calls old new → IsSameMessage (old.1 id) (new.1 id)
stays_same id [] old new same = subst (λ (s : State). IsSameMessage (old.1 id) (s.1 id)) (sym same) (itself (old.1 id))
stays_same id (call ∷ calls) old new turns =
    then_same (old.1 id) (turns.0.1 id) (new.1 id) (call_stays id call old turns.0 turns.1) (stays_same id calls turns.0 new turns.2)
