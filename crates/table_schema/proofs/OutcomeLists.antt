-- The rows of outcomes give outcomes, each with its place, to ids.
-- Nothing here speaks of a statement.
use Rattle.table_schema.proofs.Imports.{◌≡◌, ℕ, Bool, true, false, ◌||◌, ◌==◌, if◌then◌else◌, nat_lt, List, [], ◌∷◌, ◌++◌, refl, ap, ◌∙◌, bytes_eq, bytes_decides, has, placed, places_of, OutcomeRow, placed_each}
use Rattle.table_content.specs.declared.edit.ToldOutcome.{ToldOutcome}
use Rattle.table_schema.proofs.NumberLists.{or_swap, or_assoc, or_false}
use Rattle.table_schema.proofs.OwnerLists.{OwnerRows}

abbrev pub told : OutcomeRow → ToldOutcome
told x = record { place = x.place; outcome = x.outcome }

pub with_last : (ts xs : List ToldOutcome) (x : ToldOutcome) → placed_each ts (xs ++ x ∷ []) ≡ placed (λ (t : ToldOutcome). t.place) (placed_each ts xs) x
with_last ts [] x = refl
with_last ts (y ∷ xs) x = with_last (placed (λ (t : ToldOutcome). t.place) ts y) xs x

in_list : (ts : List ToldOutcome) (t : ToldOutcome) (p : ℕ) → has (places_of (placed (λ (u : ToldOutcome). u.place) ts t)) p ≡ ((t.place == p) || has (places_of ts) p)
in_list [] t p = refl
in_list (u ∷ ts) t p =
    elim (nat_lt t.place u.place) as (λ b. has (places_of (if b then t ∷ u ∷ ts else u ∷ placed (λ (u : ToldOutcome). u.place) ts t)) p
    ≡ ((t.place == p) || ((u.place == p) || has (places_of ts) p)))
    [ true ↦ refl | false ↦ ap (λ b. (u.place == p) || b) (in_list ts t p) ∙ or_swap (u.place == p) (t.place == p) (has (places_of ts) p) ]

in_lists : (ts xs : List ToldOutcome) (p : ℕ) → has (places_of (placed_each ts xs)) p ≡ (has (places_of xs) p || has (places_of ts) p)
in_lists ts [] p = refl
in_lists ts (x ∷ xs) p =
    in_lists (placed (λ (t : ToldOutcome). t.place) ts x) xs p
    ∙ ap (λ b. has (places_of xs) p || b) (in_list ts x p)
    ∙ or_swap (has (places_of xs) p) (x.place == p) (has (places_of ts) p)
    ∙ or_assoc (x.place == p) (has (places_of xs) p) (has (places_of ts) p)

abbrev pub has_place : List ToldOutcome → ToldOutcome → Bool
has_place ts t = has (places_of ts) t.place

pub has_outcomes : (ts : List ToldOutcome) (t : ToldOutcome) → has_place (placed_each [] ts) t ≡ has_place ts t
has_outcomes ts t = in_lists [] ts t.place ∙ or_false (has_place ts t)

pub id_is : (a b : List ℕ) → bytes_eq a b ≡ true → a ≡ b
id_is a b = (bytes_decides a b).0

abbrev pub outcome_rows : OwnerRows OutcomeRow (List ℕ) ToldOutcome
outcome_rows = record {
  owner = λ x. x.message_id;
  item = told;
  one_owner = bytes_eq;
  owner_is = id_is;
  one_item = λ a b. a.place == b.place;
  all = placed_each [];
  add = placed (λ (t : ToldOutcome). t.place);
  has = has_place;
  none = refl;
  empty = λ t. refl;
  last = with_last [];
  first = λ t ts u. refl;
  there = has_outcomes;
}
