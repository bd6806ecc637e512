-- The place behind the outcomes of a message.
use Rattle.std.proofs.Common.{◌≡◌, ℕ, ◌+◌, max, suc, zero, Option, Some, None, IfSome, cond, List, [], ◌∷◌, ◌++◌, length, sym, ap, subst, ◌∙◌, arith}
use Rattle.std.proofs.lemmas.List.{length-append}
use Rattle.bug_record.specs.Sets.{numbers_below}
use Rattle.bug_record.specs.declared.command.Change.{Change}
use Rattle.bug_record.specs.declared.outcome.Outcome.{Outcome}
use Rattle.table_forms.specs.Numbers.{next_above}
use Rattle.table_content.specs.Changes.{changed}
use Rattle.table_content.specs.Content.{Content}
use Rattle.table_content.specs.Edits.{places_of}
use Rattle.table_content.specs.KeptOutcomes.{changed_by, kept_after}
use Rattle.table_content.specs.Kept.{IsKeptContent}
use Rattle.table_encodings.specs.Outcomes.{bare}
use Rattle.table_content.specs.declared.edit.ToldOutcome.{ToldOutcome}
use Rattle.table_content.proofs.KeepLemmas.{images_say, own_id}
use Rattle.table_writes.specs.Needs.{IsNextPlace, IsPlaceIn}

one_more : (ns : List ℕ) (n : ℕ) → next_above (ns ++ n ∷ []) ≡ max (next_above ns) (n + 1)
one_more [] n = omega arith
one_more (m ∷ ns) n = ap (max (m + 1)) (one_more ns n) ∙ omega arith

above_all : (n : ℕ) → next_above (numbers_below n) ≡ n
unfolding numbers_below
above_all zero = omega arith
above_all (suc n) = let before = above_all n in one_more (numbers_below n) n ∙ omega (arith, before)

-- where places have no gap, the one above them is how many there are
pub place_is : (c : Content) → IsKeptContent c → (id : List ℕ) → next_above (places_of (c.outcomes id)) ≡ length (c.outcomes id)
place_is c kept id = ap next_above (kept.places id) ∙ above_all (length (c.outcomes id))

-- ---- a change of sets leaves it

pub place_after : (c : Content) (change : Change) (id : List ℕ) (place : ℕ) → IsNextPlace id place c → IsNextPlace id place (changed c change)
place_after c change id place is = is ∙ ap (λ (f : List ℕ → List ToldOutcome). length (f id)) (sym (images_say c change.images change.next).outcomes)

pub known_place_after : (c : Content) (change : Change) (known : Option (List ℕ × ℕ)) → IsPlaceIn known c → IsPlaceIn known (changed c change)
known_place_after c change None is = tt
known_place_after c change (Some next) is = place_after c change next.0 next.1 is

-- ---- an outcome that is kept makes it the next one

module _ (c : Content) (id sender message : List ℕ) (place : ℕ) (outcome : Outcome) (change : Option Change) (is : IsNextPlace id place c) where
  abbrev before : Content
  before = changed_by change c

  abbrev there : ToldOutcome
  there = record { place = length (before.outcomes id); outcome = bare outcome }

  still : (change : Option Change) → IsNextPlace id place (changed_by change c)
  still None = is
  still (Some change) = place_after c change id place is

  pub place_behind : IsNextPlace id (place + 1) (kept_after id sender message outcome change c)
  place_behind =
      ap (λ n. n + 1) (still change) ∙ sym (length-append (before.outcomes id) (there ∷ []))
      ∙ ap (λ b. length (cond b (before.outcomes id ++ there ∷ []) (before.outcomes id))) (sym (own_id id))

  pub known_place_behind : (known : Option (List ℕ × ℕ)) → IfSome known (λ next. next ≡ (id, place + 1)) → IsPlaceIn known (kept_after id sender message outcome change c)
  known_place_behind None same = tt
  known_place_behind (Some next) same = subst (λ (n : List ℕ × ℕ). IsNextPlace n.0 n.1 (kept_after id sender message outcome change c)) (sym same) place_behind
