-- The numbers whose bugs differ.
use Rattle.std.proofs.Common.{◌≡◌, ◌≤◌, ℕ, Bool, true, false, not, ◌||◌, ◌&&◌, List, [], Option, Some}
use Rattle.std.proofs.Common.{None, sym, refl, ap, ◌∙◌, subst, arith, inl, inr}
use Rattle.std.specs.Prelude.{filter, is_some}
use Rattle.std.proofs.lemmas.Option.{none-some}
use Rattle.std.proofs.lemmas.Bool.{false≢true, not-true, not-false, and_parts, and_cases}
use Rattle.std.proofs.lemmas.Bool.{or_parts}
use Rattle.bug_record.specs.Sets.{has, IsAscending, numbers_below}
use Rattle.bug_record.specs.Desk.{Desk, IsSound}
use Rattle.bug_record.specs.Images.{bug_in, put}
use Rattle.std.specs.Option.{option_or}
use Rattle.bug_record.specs.Changed.{AreChanged, same_at}
use Rattle.bug_record.specs.Changed.{changed_numbers, Replaces}
use Rattle.bug_record.specs.declared.bug.Bug.{Bug}
use Rattle.bug_record.specs.declared.bug.SetImage.{SetImage}
use Rattle.bug_images.specs.Changes.{differs}
use Rattle.bug_images.specs.Numbers.{IsJoined}
use Rattle.bug_record.proofs.EqualLemmas.{same_at-true, same_at-refl, none-from_next}
use Rattle.base_sequences.proofs.SetLemmas.{IsAscending-filter, has-filter, same-ascending, has-numbers_below}
use Rattle.base_sequences.proofs.SetLemmas.{IsAscending-numbers_below}
use Rattle.bug_images.proofs.ImageLemmas.{shown}

-- the test of difference, of equal and of other bugs
differ-not : (o p : Option Bug) → not (same_at o p) ≡ true → o ≡ p → ⊥
differ-not o p h e = false≢true (sym (not-true (same_at o p) h) ∙ ap (λ z. same_at o z) (sym e) ∙ same_at-refl o)

equal-not : (o p : Option Bug) → not (same_at o p) ≡ false → o ≡ p
equal-not o p h = same_at-true o p (not-false (same_at o p) h)

-- a number that is not among those of the bugs is no bug
no_bug : (o : Option Bug) → is_some o ≡ false → o ≡ None
no_bug None h = refl
no_bug (Some b) h = absurd (false≢true (sym h))

-- those of some numbers at which the bugs differ, where the others' bugs are equal
pub changed-are : (old new : List SetImage) (known : ℕ → Bool) (r : List ℕ)
    → ((n : ℕ) → known n ≡ false → bug_in old n ≡ bug_in new n) → IsAscending r
    → ((n : ℕ) → has r n ≡ (known n && differs old new n)) → AreChanged (bug_in old) (bug_in new) r
changed-are old new known r same ascending numbers = record {
  ascending = ascending;
  listed = λ n h. differ-not (bug_in old n) (bug_in new n) (and_parts (known n) (differs old new n) (sym (numbers n) ∙ h)).1;
  others = λ n h. elim (and_cases (known n) (differs old new n) (sym (numbers n) ∙ h))
      [ inl e ↦ same n e | inr e ↦ equal-not (bug_in old n) (bug_in new n) e ];
}

-- the same of the numbers of all bugs
pub changed-joined : (old new before after : List SetImage) (start first second r : List ℕ) → before ≡ old → after ≡ new
    → start ≡ [] → IsJoined start (λ n. is_some (bug_in new n) && differs before after n) first
    → IsJoined first (λ n. is_some (bug_in old n) && differs before after n) second → r ≡ second
    → AreChanged (bug_in old) (bug_in new) r
changed-joined old new before after start first second r is_old is_new empty one two last =
    changed-are old new (λ n. is_some (bug_in new n) || is_some (bug_in old n)) r
    (λ n e. let p = or_parts (is_some (bug_in new n)) (is_some (bug_in old n)) e in
    no_bug (bug_in old n) p.1 ∙ sym (no_bug (bug_in new n) p.0))
    (subst IsAscending (sym last) (two.ascending (one.ascending (subst IsAscending (sym empty) tt))))
    (λ n. ap (λ z. has z n) last ∙ two.numbers n
    ∙ ap (λ t. t || (is_some (bug_in old n) && differs before after n))
    (one.numbers n ∙ ap (λ z. has z n || (is_some (bug_in new n) && differs before after n)) empty)
    ∙ group (is_some (bug_in new n)) (is_some (bug_in old n)) (differs before after n)
    ∙ (λ j. (is_some (bug_in new n) || is_some (bug_in old n)) && differs (is_old j) (is_new j) n))
  where
    group : (a b d : Bool) → ((a && d) || (b && d)) ≡ ((a || b) && d)
    group true b true = refl
    group true true false = refl
    group true false false = refl
    group false b d = refl

-- The numbers at which the images differ are those at which the desks before and after differ.
pub changed-on_desk : (d : Desk) (old new : List SetImage) (next : ℕ) (r : List ℕ) → Replaces d old new next
    → AreChanged (bug_in old) (bug_in new) r → AreChanged d.bug (put d (record { images = new; next = next })).bug r
changed-on_desk d old new next r h are = record {
  ascending = are.ascending;
  listed = λ n e. listed n (are.listed n e) (bug_in old n) refl (bug_in new n) refl;
  others = λ n e. others n (are.others n e) (bug_in new n) refl;
}
  where
    others : (n : ℕ) → bug_in old n ≡ bug_in new n → (p : Option Bug) → bug_in new n ≡ p
        → d.bug n ≡ option_or (bug_in new n) (d.bug n)
    others n e None q = ap (λ o. option_or o (d.bug n)) (sym q)
    others n e (Some b) q = shown d old h.sets n b (e ∙ q) ∙ ap (λ o. option_or o (d.bug n)) (sym q)

    listed : (n : ℕ) → (bug_in old n ≡ bug_in new n → ⊥) → (o : Option Bug) → bug_in old n ≡ o → (p : Option Bug)
        → bug_in new n ≡ p → d.bug n ≡ option_or (bug_in new n) (d.bug n) → ⊥
    listed n w o e None q k = absurd (w (h.covers n q ∙ sym q))
    listed n w None e (Some b) q k = absurd (none-some b (sym (h.brings n b e q) ∙ k ∙ ap (λ o. option_or o (d.bug n)) q))
    listed n w (Some a) e (Some b) q k =
        absurd (w (e ∙ sym (shown d old h.sets n a e) ∙ k ∙ ap (λ o. option_or o (d.bug n)) q ∙ sym q))

-- so they are the list of the two desks
pub changed-listed : (d : Desk) (old new : List SetImage) (next : ℕ) (r : List ℕ) → Replaces d old new next
    → AreChanged (bug_in old) (bug_in new) r → r ≡ changed_numbers d (put d (record { images = new; next = next }))
changed-listed d old new next r h are =
    same-ascending r (filter differ (numbers_below next)) are.ascending
    (IsAscending-filter differ (numbers_below next) (IsAscending-numbers_below next))
    (λ m. agree m (has r m) (has (filter differ (numbers_below next)) m) refl refl)
  where
    after : Desk
    after = put d (record { images = new; next = next })

    differ : ℕ → Bool
    differ n = not (same_at (d.bug n) (after.bug n))

    on_desk : AreChanged d.bug after.bug r
    on_desk = changed-on_desk d old new next r h are

    agree : (m : ℕ) (s t : Bool) → has r m ≡ s → has (filter differ (numbers_below next)) m ≡ t → s ≡ t
    agree m true true p q = refl
    agree m false false p q = refl
    agree m true false p q =
        absurd (on_desk.listed m p
        (elim (and_cases (has (numbers_below next) m) (differ m) (sym (has-filter differ (numbers_below next) m) ∙ q)) [
          | inl e ↦ none-from_next d h.sound m next h.later (sym (has-numbers_below next m) ∙ e)
              ∙ sym (none-from_next after h.sound_after m next (omega arith) (sym (has-numbers_below next m) ∙ e))
          | inr e ↦ equal-not (d.bug m) (after.bug m) e
        ]))
    agree m false true p q =
        absurd (differ-not (d.bug m) (after.bug m)
        (and_parts (has (numbers_below next) m) (differ m) (sym (has-filter differ (numbers_below next) m) ∙ q)).1
        (on_desk.others m p))

-- the list of two sound desks is that of the numbers at which they differ
pub changed-differ : (d e : Desk) → IsSound d → IsSound e → d.next ≤ e.next → AreChanged d.bug e.bug (changed_numbers d e)
changed-differ d e sound sound_after later = record {
  ascending = IsAscending-filter differ (numbers_below e.next) (IsAscending-numbers_below e.next);
  listed = λ n h. differ-not (d.bug n) (e.bug n)
      (and_parts (has (numbers_below e.next) n) (differ n) (sym (has-filter differ (numbers_below e.next) n) ∙ h)).1;
  others = λ n h. elim (and_cases (has (numbers_below e.next) n) (differ n)
      (sym (has-filter differ (numbers_below e.next) n) ∙ h)) [
        | inl a ↦ none-from_next d sound n e.next later (sym (has-numbers_below e.next n) ∙ a)
            ∙ sym (none-from_next e sound_after n e.next (omega arith) (sym (has-numbers_below e.next n) ∙ a))
        | inr b ↦ equal-not (d.bug n) (e.bug n) b
      ];
}
  where
    differ : ℕ → Bool
    differ n = not (same_at (d.bug n) (e.bug n))
