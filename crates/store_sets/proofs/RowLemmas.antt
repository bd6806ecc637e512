-- The rows of the bugs that pass a test of their shared fields, over the places of a map.
use Rattle.std.proofs.Common.{◌≡◌, ◌+◌, ℕ, suc, Bool, true, false, cond, List, [], ◌∷◌, ◌++◌, get_or, Option, Some, None}
use Rattle.std.proofs.Common.{sym, refl, ap, ◌∙◌, arith, subst}
use Rattle.std.specs.Prelude.{◌==◌, nat_eq, slice_get, option_map, map, flat_map}
use Rattle.std.specs.Option.{option_and_then}
use Rattle.std.specs.Cmp.{nat_eq_equiv}
use Rattle.std.specs.Ordering.{nat_cmp, is_lt}
use Rattle.std.specs.Map.{values_of}
use Rattle.std.specs.HashMap.{HashMap, get, values, IsUnique}
use Rattle.std.specs.List.{All, Contains, dedup, dedup_from}
use Rattle.std.specs.List.Sorted.{IsSorted, IsSortedByKey}
use Rattle.std.proofs.lemmas.Option.{none-some, same_Some}
use Rattle.std.proofs.lemmas.List.{get_or-map, map-append, length-map}
use Rattle.std.proofs.lemmas.List.Elements.{All-nil, All-cons, All-head, All-tail, All-append, All-contains, All-contains_itself}
use Rattle.std.proofs.lemmas.Map.Entries.{hash_map_get_place}
use Rattle.version_nodes.specs.Trees.{Ancestry}
use Rattle.bug_record.specs.Sets.{has, Each, IsAscending}
use Rattle.bug_record.specs.Desk.{IsSound}
use Rattle.bug_record.specs.Images.{numbers_of, bug_of}
use Rattle.bug_record.specs.Asked.{numbers_where}
use Rattle.bug_record.specs.declared.bug.Bug.{Bug}
use Rattle.bug_record.specs.declared.bug.Member.{Member}
use Rattle.bug_record.specs.declared.bug.SetImage.{SetImage}
use Rattle.bug_record.specs.declared.bug.Shared.{Shared}
use Rattle.bug_record.specs.Rows.{row_of, rows_of, with_row}
use Rattle.bug_record.specs.declared.row.ListRow.{ListRow}
use Rattle.store_keys.specs.Keys.{keyed_bug, keyed_desk, IsKeyed}
use Rattle.store_sets.specs.Places.{image_at, keys, sets}
use Rattle.store_sets.specs.Passing.{image_passing, bugs_of, passing_there, member_row, set_rows, rows_there, row_numbers}
use Rattle.store_sets.specs.declared.places.Place.{Place}
use Rattle.store_sets.specs.declared.places.Place.TheVariants.{First, After}
use Rattle.store_keys.proofs.KeyLemmas.{image-of_key}
use Rattle.store_sets.proofs.PassingLemmas.{passing_in, passing-is}

-- ---- rows in order

abbrev pub same_number : ListRow → ListRow → Bool
same_number r s = r.number == s.number

dedup_from-numbers : (r : ListRow) (rows : List ListRow)
    → row_numbers (dedup_from same_number r rows) ≡ dedup_from nat_eq r.number (row_numbers rows)
dedup_from-numbers r [] = refl
dedup_from-numbers r (s ∷ rows) =
    elim (s.number == r.number) as (λ t. row_numbers (cond t (dedup_from same_number r rows) (r ∷ dedup_from same_number s rows))
    ≡ cond t (dedup_from nat_eq r.number (row_numbers rows)) (r.number ∷ dedup_from nat_eq s.number (row_numbers rows))) [
      | true ↦ dedup_from-numbers r rows
      | false ↦ ap (λ (ns : List ℕ). r.number ∷ ns) (dedup_from-numbers s rows)
    ]

-- the numbers of rows of which one of each number stays
pub dedup-numbers : (rows : List ListRow) → row_numbers (dedup same_number rows) ≡ dedup nat_eq (row_numbers rows)
dedup-numbers [] = refl
dedup-numbers (r ∷ rows) = dedup_from-numbers r rows

-- the numbers of rows that are sorted by their numbers are sorted
pub sorted-numbers : (rows : List ListRow) → IsSortedByKey (λ (r : ListRow). r.number) nat_cmp rows → IsSorted nat_cmp (row_numbers rows)
sorted-numbers [] h k d from within = absurd (omega arith)
sorted-numbers (r ∷ rows) h k d from within =
    let all = r ∷ rows in
    let long = length-map all number in
    ap (λ (n : ℕ). is_lt (nat_cmp n (get_or (row_numbers all) k d))) (get_or-map number all (k + 1) r d (omega arith))
    ∙ ap (λ (n : ℕ). is_lt (nat_cmp (number (get_or all (k + 1) r)) n)) (get_or-map number all k r d (omega arith))
    ∙ h k r from (omega arith)
  where
    number : ListRow → ℕ
    number r = r.number

-- ---- the numbers of the rows

member-numbers : (i : SetImage) (ms : List Member) → row_numbers (map (member_row i) ms) ≡ numbers_of ms
member-numbers i [] = refl
member-numbers i (m ∷ ms) = ap (λ (ns : List ℕ). m.number ∷ ns) (member-numbers i ms)

set-numbers : (o : Option SetImage) → row_numbers (set_rows o) ≡ bugs_of o
set-numbers None = refl
set-numbers (Some i) = member-numbers i i.members

-- the rows of the bugs that pass have their numbers
passing-numbers : (test : Shared → Bool) (ps : List Place) → row_numbers (flat_map (rows_there test) ps) ≡ passing_in test ps
passing-numbers test [] = refl
passing-numbers test (p ∷ ps) =
    map-append (λ (r : ListRow). r.number) (rows_there test p) (flat_map (rows_there test) ps)
    ∙ ap (λ (ns : List ℕ). ns ++ row_numbers (flat_map (rows_there test) ps)) (set-numbers (image_passing test p))
    ∙ ap (λ (ns : List ℕ). passing_there test p ++ ns) (passing-numbers test ps)

-- ---- rows of bugs

module _ (bug : ℕ → Option Bug) where
  -- the row is that of the bug of its number
  abbrev IsRow : ListRow → Type 0
  IsRow r = option_map (row_of r.number) (bug r.number) ≡ Some r

  row-first : (n : ℕ) (o : Option Bug) (r : ListRow) (rows : List ListRow) → option_map (row_of n) o ≡ Some r
      → r ∷ rows ≡ with_row n o rows
  row-first n None r rows h = absurd (none-some r h)
  row-first n (Some b) r rows h = ap (λ (s : ListRow). s ∷ rows) (sym (same_Some _ _ h))

  rows-of_numbers : (rows : List ListRow) → All IsRow rows → rows ≡ rows_of bug (row_numbers rows)
  rows-of_numbers [] h = refl
  rows-of_numbers (r ∷ rows) h =
      row-first r.number (bug r.number) r rows (All-head IsRow r rows h)
      ∙ ap (λ (rs : List ListRow). with_row r.number (bug r.number) rs) (rows-of_numbers rows (All-tail IsRow r rows h))

  member-rows : (i : SetImage) (ms : List Member) → Each (λ m. bug m.number ≡ Some (bug_of i m)) ms
      → All IsRow (map (member_row i) ms)
  member-rows i [] h = All-nil IsRow
  member-rows i (m ∷ ms) h =
      All-cons IsRow (member_row i m) (map (member_row i) ms) (ap (option_map (row_of m.number)) h.0) (member-rows i ms h.1)

module _ {S : Type 0} (bugs : HashMap ℕ Place S) (unique : IsUnique nat_eq bugs) (keyed : IsKeyed (keys bugs) (sets bugs))
    (test : Shared → Bool) (tree : Ancestry) (next : ℕ) (sound : IsSound (keyed_desk (keys bugs) (sets bugs) tree next)) where
  abbrev bug : ℕ → Option Bug
  bug m = keyed_bug (keys bugs) (sets bugs) m

  place-rows : (k : ℕ) (p : Place) → get nat_eq bugs k ≡ Some p → All (IsRow bug) (rows_there test p)
  place-rows k (After l) e = All-nil (IsRow bug)
  place-rows k (First j) e =
      let s : sets bugs k ≡ Some j = ap (option_and_then image_at) e in
      let own = keyed.known k k j s (keyed.own k j s) in
      elim (test j.shared) as (λ t. All (IsRow bug) (set_rows (cond t (Some j) None))) [
        | true ↦ member-rows bug j j.members (image-of_key (keys bugs) (sets bugs) keyed tree next sound k k j own s).1
        | false ↦ All-nil (IsRow bug)
      ]

  entry-rows : (es : List (ℕ × Place)) → ((i k : ℕ) (p : Place) → slice_get es i ≡ Some (k, p) → get nat_eq bugs k ≡ Some p)
      → All (IsRow bug) (flat_map (rows_there test) (values_of es))
  entry-rows [] at = All-nil (IsRow bug)
  entry-rows (e ∷ es) at =
      All-append (IsRow bug) (rows_there test e.1) (flat_map (rows_there test) (values_of es)) (place-rows e.0 e.1 (at 0 e.0 e.1 refl))
      (entry-rows es (λ i k p h. at (suc i) k p h))

  -- those rows, in order and each once, are the rows of the bugs of the desk that pass
  pub rows-passing : (made rows : List ListRow) → made ≡ flat_map (rows_there test) (values bugs)
      → IsAscending (row_numbers rows) → ((n : ℕ) → has (row_numbers rows) n ≡ has (row_numbers made) n)
      → ((r : ListRow) → Contains rows r → Contains made r)
      → rows ≡ rows_of bug (numbers_where test (keyed_desk (keys bugs) (sets bugs) tree next))
  rows-passing made rows is up same among =
      let all : All (IsRow bug) made =
      subst (All (IsRow bug)) (sym is)
      (entry-rows bugs.entries (λ i k p h. hash_map_get_place nat_eq_equiv bugs i k p unique h)) in
      rows-of_numbers bug rows (λ k d within.
      All-contains (IsRow bug) made (get_or rows k d) all (among (get_or rows k d) (All-contains_itself rows k d within)))
      ∙ ap (rows_of bug) (passing-is bugs unique keyed test tree next sound (row_numbers rows) up
      (λ n. same n ∙ ap (λ (rs : List ListRow). has (row_numbers rs) n) is
      ∙ ap (λ (ns : List ℕ). has ns n) (passing-numbers test (values bugs))))
