-- What the query of the last place of a message's outcomes answers.
use Rattle.table_schema.proofs.Exports.{◌≡◌, ℕ, ◌+◌, ◌≤◌, pos, true, false, inl, inr, Option, Result, Ok, Err, IfOk, List, [], ◌∷◌, codes, map, filter, take, is_lt, refl, sym, ap, subst, ◌∙◌, arith, IsPermutation, option_map_or, bytes_eq, nat_tests, ints, IsPermutation-map, Int, Text, understood, Row, value_cmp, Query, output, output_cmp, Term, col, IsPlain, reads_as, everything, Key, Binary, value_cmp-Int, then-Equal, StoreFault, first_of, passes, equals, next_above, AreGreatest, query_fault_or_same, greatest_first, same_next, IsPageOf, page_free, finds_first, map_map, pair_of, shown_open, shown_same, kept_rows, and_true, holds_text, Content, places_of, ToldOutcome, OutcomeRow, outcome_cells, told_of, placed_each, OUTCOMES, desk_schema, same_text, outcomes, told, IsRead, seen_is}
use Rattle.table_nodes.proofs.OutcomeOrder.{all_in}

abbrev pub read_text : List ℕ
read_text = codes "SELECT place FROM outcomes WHERE id = ?1 ORDER BY place DESC LIMIT 1"

abbrev by_place : List (Term × Key)
by_place = (col 1 2, record { collation = Binary; descending = true }) ∷ []

abbrev asked : Query
asked = first_of OUTCOMES (equals 1 ∷ []) (col 1 2 ∷ []) by_place

read_is : (id : List ℕ) → IsPageOf desk_schema read_text (Text id ∷ []) (pos 1) OUTCOMES (equals 1 ∷ []) (col 1 2 ∷ []) by_place (codes "place" ∷ [])
unfolding understood everything
read_is id = record { command_is = refl; plain = (refl, refl); whole = omega arith; given = refl; unlisted = refl; typed = refl }

-- whether a row has the id
hit_id : (id : List ℕ) (x : OutcomeRow) → passes (equals 1 ∷ []) (Text id ∷ []) (outcome_cells x) ≡ bytes_eq x.message_id id
hit_id id x = and_true _ ∙ holds_text 1 0 (Text id ∷ []) (outcome_cells x) id refl ∙ same_text x.message_id id

high_is : (a b : ℕ) → is_lt (output_cmp asked (pair_of b) (pair_of a)) ≡ false → b ≤ a
high_is a b h = let order = sym (ap is_lt (then-Equal (value_cmp (Int (pos a)) (Int (pos b))) ∙ value_cmp-Int (pos a) (pos b))) ∙ h in grind (arith, ints, nat_tests, order)

outputs : (id : List ℕ) (xs : List OutcomeRow) → map (λ r. output asked ((Text id ∷ []) ∷ r ∷ [])) (filter (passes (equals 1 ∷ []) (Text id ∷ [])) (map outcome_cells xs)) ≡ map pair_of (places_of (told_of id xs))
outputs id xs =
    ap (map (λ r. output asked ((Text id ∷ []) ∷ r ∷ []))) (kept_rows outcome_cells (passes (equals 1 ∷ []) (Text id ∷ [])) (λ x. bytes_eq x.message_id id) (hit_id id) xs)
    ∙ map_map outcome_cells _ _ ∙ sym (map_map (λ (t : ToldOutcome). t.place) pair_of _ ∙ map_map told _ _)

-- by place they have the same one above them
by_their_place : (ts : List ToldOutcome) (rows : List Row) → AreGreatest (places_of ts) rows → AreGreatest (places_of (placed_each [] ts)) rows
by_their_place ts rows it = record {
  greatest = it.greatest;
  are = it.are;
  next = sym (same_next (places_of ts) (places_of (placed_each [] ts)) (IsPermutation-map (λ (t : ToldOutcome). t.place) ts (placed_each [] ts) (all_in ts))) ∙ it.next;
}

pub place_read : (id : List ℕ) → IsRead read_text (Text id ∷ []) (λ c rows. AreGreatest (places_of (c.outcomes id)) rows)
place_read id = record {
  shows = λ old new rows inside h.
      let live = shown_open old new read_text (Text id ∷ []) rows h in
      let has = inside.schema live in
      let it = read_is id in
      let read = reads_as read_text (Text id ∷ []) old new desk_schema has _ it.command_is it.plain it.unlisted rows h in
      let first = finds_first OUTCOMES (equals 1 ∷ []) (col 1 2 ∷ []) by_place old.now.trees (Text id ∷ []) rows read.answer in
      let all = inside.shown live in
      let shown = all.outcomes in
      let shows = λ (r : Row). output asked ((Text id ∷ []) ∷ r ∷ []) in
      let p = passes (equals 1 ∷ []) (Text id ∷ []) in
      let f = first.finds in
      let same = subst (λ os. IsPermutation os f.ordered) (ap (λ rs. map shows (filter p rs)) shown.are ∙ outputs id shown.items) f.same in
      let is = greatest_first (output_cmp asked) high_is (places_of (told_of id shown.items)) f.ordered same f.sorted in (
        shown_same old new read_text (Text id ∷ []) rows (subst (λ schema. IsPlain (understood schema read_text)) (sym has) it.plain) h,
        subst (λ (g : List ℕ → List ToldOutcome). AreGreatest (places_of (g id)) rows) (sym (ap (λ (c : Content). c.outcomes) (seen_is outcomes old all)))
            (by_their_place (told_of id shown.items) rows (subst (AreGreatest (places_of (told_of id shown.items))) (sym (first.is ∙ ap (take 1) f.is)) is)),
      );
  free = λ old new e inside h. elim (query_fault_or_same old new read_text (Text id ∷ []) e h) [
    | inl store ↦ store
    | inr same ↦ page_free desk_schema read_text (Text id ∷ []) (pos 1) OUTCOMES (equals 1 ∷ []) (col 1 2 ∷ []) by_place _ (read_is id) old new (inside.schema same.0.was_open) inside.unlimited e h
  ];
}

-- a number one above the greatest
pub above_it : (ns : List ℕ) (greatest : Option ℕ) (r : Result ℕ StoreFault) → next_above ns ≡ option_map_or (λ n. n + 1) greatest 0 → IfOk r (λ v. v ≡ option_map_or (λ n. n + 1) greatest 0)
    → IfOk r (λ v. v ≡ next_above ns)
above_it ns greatest (Ok v) next is = is ∙ sym next
above_it ns greatest (Err fault) next is = tt
