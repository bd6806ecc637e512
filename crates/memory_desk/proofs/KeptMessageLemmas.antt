-- What a desk in memory keeps, as its map is changed.
use Rattle.std.proofs.Common.{◌≡◌, ◌-◌, arith, Result, Ok, Err, OnOk, OnErr, ◌<◌, ◌≤◌, ℕ, Bool, true, false, cond, List, [], ◌∷◌, ◌++◌, length, take, Option, Some, None}
use Rattle.std.proofs.Common.{refl, sym, ap, ◌∙◌, subst}
use Rattle.std.proofs.lemmas.Bool.{lt-ltb, le-ltb}
use Rattle.std.specs.Cmp.Lexicographic.{bytes_decides}
use Rattle.std.specs.Map.{update}
use Rattle.std.specs.Str.{bytes_eq}
use Rattle.bug_record.specs.declared.outcome.Outcome.{Outcome}
use Rattle.base_words.specs.Ids.{IsId}
use Rattle.store_contract.specs.Kept.{Keeping, IsGoodKept, AreGoodKept, IsOfMessage, outcomes_kept, kept_also}
use Rattle.store_contract.specs.declared.kept.Kept.{Kept}
use Rattle.memory_desk.specs.KeptMessages.{shorter, without_last}
use Rattle.std.proofs.lemmas.List.{length-append}
use Rattle.store_contract.proofs.KeepLemmas.{kept_now, kept_with-push, but_last}

-- the new map has this at the id, and at all others what the old one has
abbrev pub PutsAt : List ℕ → Option Kept → Keeping → Keeping → Type 0
PutsAt id o old new = (other : List ℕ) → new other ≡ update bytes_eq old id o other

-- the record of a message that is kept, with more outcomes
pub longer : (k : Kept) (sender message : List ℕ) (outcomes : List Outcome) → IsOfMessage sender message (Some k)
    → record k { outcomes = outcomes } ≡ kept_now sender message outcomes
longer k sender message outcomes same = λ i. kept_now (same.0 i) (same.1 i) outcomes

pub put-also : (id sender message : List ℕ) (outcome : Outcome) (old new : Keeping) (k : Kept)
    → k ≡ kept_now sender message (outcomes_kept (old id) ++ outcome ∷ []) → PutsAt id (Some k) old new
    → new ≡ kept_also id sender message outcome old
put-also id sender message outcome old new k e puts =
    let each : (other : List ℕ) → new other ≡ cond (bytes_eq id other) (Some (kept_now sender message (outcomes_kept (old id) ++ outcome ∷ []))) (old other) =
    λ other. puts other ∙ ap (λ (j : Kept). cond (bytes_eq id other) (Some j) (old other)) e in
    (λ i other. each other i) ∙ sym (kept_with-push id sender message (outcomes_kept (old id)) outcome old)

-- what is put is what was there
same_there : (id other : List ℕ) (b : Bool) (o : Option Kept) (old : Keeping) → bytes_eq id other ≡ b → old id ≡ o
    → cond b o (old other) ≡ old other
same_there id other true o old is e = sym e ∙ ap old ((bytes_decides id other).0 is)
same_there id other false o old is e = refl

pub put-same : (id : List ℕ) (o : Option Kept) (old new : Keeping) → old id ≡ o → PutsAt id o old new → new ≡ old
put-same id o old new e puts = λ i other. (puts other ∙ same_there id other (bytes_eq id other) o old refl e) i

-- what is put is what was there without its last outcome
shorter_there : (id other : List ℕ) (b : Bool) (o : Option Kept) (old : Keeping) → bytes_eq id other ≡ b → shorter (old id) ≡ o
    → cond b o (old other) ≡ cond b (shorter (old other)) (old other)
shorter_there id other true o old is e = sym e ∙ ap (λ (i : List ℕ). shorter (old i)) ((bytes_decides id other).0 is)
shorter_there id other false o old is e = refl

pub put-shorter : (id : List ℕ) (o : Option Kept) (old new : Keeping) → shorter (old id) ≡ o → PutsAt id o old new
    → new ≡ without_last id old
put-shorter id o old new e puts = λ i other. (puts other ∙ shorter_there id other (bytes_eq id other) o old refl e) i

-- a message with several outcomes, and one with one
pub shorter-several : (k : Kept) → 1 < length k.outcomes → shorter (Some k) ≡ Some (record k { outcomes = take (length k.outcomes - 1) k.outcomes })
shorter-several k h = ap (λ b. cond b (Some (record k { outcomes = take (length k.outcomes - 1) k.outcomes })) None) (lt-ltb 1 (length k.outcomes) h)

pub shorter-one : (k : Kept) → length k.outcomes ≤ 1 → shorter (Some k) ≡ None
shorter-one k h = ap (λ b. cond b (Some (record k { outcomes = take (length k.outcomes - 1) k.outcomes })) None) (le-ltb 1 (length k.outcomes) h)

-- ---- an outcome that is taken back

some_more : {T : Type 0} (xs : List T) → (xs ≡ [] → ⊥) → 0 < length xs
some_more [] h = absurd (h refl)
some_more (x ∷ xs) h = omega arith

back : (id sender message : List ℕ) (outcome : Outcome) (o : Option Kept) → IsOfMessage sender message o
    → ((j : Kept) → o ≡ Some j → IsId id × IsGoodKept j)
    → shorter (Some (kept_now sender message (outcomes_kept o ++ outcome ∷ []))) ≡ o
back id sender message outcome None same good = refl
back id sender message outcome (Some j) same good =
    let k = kept_now sender message (j.outcomes ++ outcome ∷ []) in
    let some = some_more j.outcomes (good j refl).1.some in
    shorter-several k (omega (arith, some, length-append j.outcomes (outcome ∷ [])))
    ∙ ap (λ (os : List Outcome). Some (kept_now sender message os)) (but_last j.outcomes outcome)
    ∙ ap Some (sym (longer j sender message j.outcomes same))

back_at : (id other sender message : List ℕ) (outcome : Outcome) (b : Bool) (old : Keeping) → bytes_eq id other ≡ b
    → IsOfMessage sender message (old id) → AreGoodKept old
    → (let k = kept_now sender message (outcomes_kept (old id) ++ outcome ∷ []) in
    cond b (shorter (cond b (Some k) (old other))) (cond b (Some k) (old other))) ≡ old other
back_at id other sender message outcome true old is same good =
    back id sender message outcome (old id) same (good id) ∙ ap old ((bytes_decides id other).0 is)
back_at id other sender message outcome false old is same good = refl

pub without_last-also : (id sender message : List ℕ) (outcome : Outcome) (old : Keeping) → IsOfMessage sender message (old id)
    → AreGoodKept old → without_last id (kept_also id sender message outcome old) ≡ old
without_last-also id sender message outcome old same good =
    ap (without_last id) (kept_with-push id sender message (outcomes_kept (old id)) outcome old)
    ∙ (λ i other. back_at id other sender message outcome (bytes_eq id other) old refl same good i)

-- what is kept with an outcome more, or as before
pub added-good : {T E : Type 0} (r : Result T E) (id sender message : List ℕ) (outcome : Outcome) (old now : Keeping)
    → AreGoodKept old → AreGoodKept (kept_also id sender message outcome old)
    → OnOk r (now ≡ kept_also id sender message outcome old) → OnErr r (now ≡ old) → AreGoodKept now
added-good (Ok t) id sender message outcome old now good more ok err = subst AreGoodKept (sym ok) more
added-good (Err e) id sender message outcome old now good more ok err = subst AreGoodKept (sym err) good
