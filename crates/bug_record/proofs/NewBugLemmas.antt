-- The numbers at which a desk with new bugs differs are those of the new bugs.
use Rattle.std.proofs.Common.{◌≡◌, ◌+◌, ◌<◌, ◌≤◌, ℕ, zero, suc, Bool, true, false, cond, not, ◌&&◌, [], ◌∷◌, ◌++◌, Option, Some, None}
use Rattle.std.proofs.Common.{map, sym, refl, ap, ◌∙◌, arith}
use Rattle.std.specs.Prelude.{filter, nat_le, nat_lt}
use Rattle.std.proofs.Math.Nat.{add-zero, add-suc}
use Rattle.std.proofs.lemmas.Bool.{and_from, le-leb, le-ltb, lt-ltb, lt-leb}
use Rattle.std.proofs.lemmas.List.{map-append}
use Rattle.std.proofs.lemmas.List.Elements.{filter-append}
use Rattle.bug_record.specs.Bugs.{with_new_bugs}
use Rattle.bug_record.specs.Changed.{same_at, changed_numbers}
use Rattle.base_sequences.specs.Sets.{numbers_below}
use Rattle.bug_record.specs.Desk.{Desk, IsSound}
use Rattle.bug_record.specs.declared.bug.Bug.{Bug}
use Rattle.bug_record.proofs.EqualLemmas.{same_at-refl, none-from_next}

-- whether a number's bug is another one on the desk with new bugs
abbrev differs_at : Desk → (ℕ → Bug) → ℕ → ℕ → Bool
differs_at d new many n = not (same_at (d.bug n) ((with_new_bugs d new many).bug n))

old_one : (d : Desk) (new : ℕ → Bug) (many n : ℕ) → n < d.next → differs_at d new many n ≡ false
old_one d new many n l =
    ap (λ t. not (same_at (d.bug n) (cond (t && nat_lt n (d.next + many)) (Some (new n)) (d.bug n)))) (lt-leb d.next n l)
    ∙ ap not (same_at-refl (d.bug n))

new_one : (d : Desk) (new : ℕ → Bug) (many k : ℕ) → IsSound d → k < many → differs_at d new many (d.next + k) ≡ true
new_one d new many k sound l = let n = d.next + k in
    ap (λ t. not (same_at (d.bug n) (cond t (Some (new n)) (d.bug n)))) there
    ∙ ap (λ (o : Option Bug). not (same_at o (Some (new n)))) none
  where
    there : (nat_le d.next (d.next + k) && nat_lt (d.next + k) (d.next + many)) ≡ true
    there = and_from (nat_le d.next (d.next + k)) (nat_lt (d.next + k) (d.next + many))
        (le-leb d.next (d.next + k) (omega arith)) (lt-ltb (d.next + k) (d.next + many) (omega (arith, l)))

    none : d.bug (d.next + k) ≡ None
    none = none-from_next d sound (d.next + k) d.next (omega arith) (le-ltb (d.next + k) d.next (omega arith))

-- none of the numbers up to the next one
none_below : (d : Desk) (new : ℕ → Bug) (many n : ℕ) → n ≤ d.next → filter (differs_at d new many) (numbers_below n) ≡ []
unfolding numbers_below
none_below d new many zero l = refl
none_below d new many (suc n) l =
    filter-append (differs_at d new many) (numbers_below n) (n ∷ [])
    ∙ (λ j. none_below d new many n (omega (arith, l)) j
    ++ ap (λ t. cond t (n ∷ []) []) (old_one d new many n (omega (arith, l))) j)

-- and all from there on
all_from_next : (d : Desk) (new : ℕ → Bug) (many k : ℕ) → IsSound d → k ≤ many
    → filter (differs_at d new many) (numbers_below (d.next + k)) ≡ map (λ i. d.next + i) (numbers_below k)
unfolding numbers_below
all_from_next d new many zero sound l =
    ap (λ n. filter (differs_at d new many) (numbers_below n)) (add-zero d.next) ∙ none_below d new many d.next (omega arith)
all_from_next d new many (suc k) sound l =
    ap (λ n. filter (differs_at d new many) (numbers_below n)) (add-suc d.next k)
    ∙ filter-append (differs_at d new many) (numbers_below (d.next + k)) ((d.next + k) ∷ [])
    ∙ (λ j. all_from_next d new many k sound (omega (arith, l)) j
    ++ ap (λ t. cond t ((d.next + k) ∷ []) []) (new_one d new many k sound (omega (arith, l))) j)
    ∙ sym (map-append (λ i. d.next + i) (numbers_below k) (k ∷ []))

pub changed-new : (d : Desk) (new : ℕ → Bug) (many : ℕ) → IsSound d
    → changed_numbers d (with_new_bugs d new many) ≡ map (λ k. d.next + k) (numbers_below many)
changed-new d new many sound = all_from_next d new many many sound (omega arith)
