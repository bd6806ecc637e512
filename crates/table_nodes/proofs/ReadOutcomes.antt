-- What the query of a message's outcomes answers.
use Rattle.table_nodes.proofs.Imports.{outcome_row, AreOutcomeRows}
use Rattle.table_schema.proofs.Exports.{◌≡◌, ℕ, ◌<◌, pos, false, List, [], ◌∷◌, codes, map, filter, Less, refl, sym, ap, subst, ◌∙◌, arith, IsPermutation, IsSorted, bytes_eq, nat_tests, ints, IsPermutation-map, IsPermutation-sym, IsPermutation-trans, Int, Text, understood, Row, value_cmp, Query, Output, output, output_cmp, Term, col, ascending-map, ascending_weaker, sorted_unique, everything, IsAscending, Key, Binary, value_cmp-Int, then-Equal, query_of, passes, equals, number_row, IsQueryOf, map_map, kept_rows, and_true, holds_text, Content, ToldOutcome, OutcomeRow, outcome_cells, told_of, placed_each, OUTCOMES, desk_schema, same_text, outcomes, keyed_outcomes, rows_apart, told, IsRead, reads_inside, seen_is}
use Rattle.sqlite_sql.proofs.QueryLemmas.{output_cmp_total}
use Rattle.table_nodes.proofs.OutcomeOrder.{Rises, all_in, all_rise, told_apart, outcomes_good}

abbrev pub read_text : List ℕ
read_text = codes "SELECT place, kind, number, field, source, version FROM outcomes WHERE id = ?1 ORDER BY place"

abbrev cells_shown : List Term
cells_shown = col 1 2 ∷ col 1 3 ∷ col 1 4 ∷ col 1 5 ∷ col 1 6 ∷ col 1 7 ∷ []

abbrev by_place : List (Term × Key)
by_place = (col 1 2, record { collation = Binary; descending = false }) ∷ []

abbrev asked : Query
asked = query_of OUTCOMES (equals 1 ∷ []) cells_shown by_place

read_is : (id : List ℕ) → IsQueryOf desk_schema read_text (Text id ∷ []) OUTCOMES (equals 1 ∷ []) cells_shown by_place
    (codes "place" ∷ codes "kind" ∷ codes "number" ∷ codes "field" ∷ codes "source" ∷ codes "version" ∷ [])
unfolding understood everything
read_is id = record { command_is = refl; plain = (refl, refl); whole = omega arith; given = refl; unlisted = refl; typed = refl }

-- ---- the rows stand in the order that is asked for

-- whether a row has the id
hit_id : (id : List ℕ) (x : OutcomeRow) → passes (equals 1 ∷ []) (Text id ∷ []) (outcome_cells x) ≡ bytes_eq x.message_id id
hit_id id x = and_true _ ∙ holds_text 1 0 (Text id ∷ []) (outcome_cells x) id refl ∙ same_text x.message_id id

abbrev pair_of : ToldOutcome → Output
pair_of t = (number_row t.place, outcome_row t)

lower : (a b : ToldOutcome) → a.place < b.place → output_cmp asked (pair_of a) (pair_of b) ≡ Less
lower a b low = then-Equal (value_cmp (Int (pos a.place)) (Int (pos b.place))) ∙ value_cmp-Int (pos a.place) (pos b.place) ∙ grind (arith, ints, nat_tests, low)

rising : (ts : List ToldOutcome) → Rises ts → IsAscending (λ a b. output_cmp asked a b ≡ Less) (map pair_of ts)
rising ts up = ascending-map (λ a b. output_cmp asked a b ≡ Less) pair_of ts
    (ascending_weaker (λ (a b : ToldOutcome). a.place < b.place) (λ a b. output_cmp asked (pair_of a) (pair_of b) ≡ Less) lower ts up)

outputs : (id : List ℕ) (xs : List OutcomeRow) → map (λ r. output asked ((Text id ∷ []) ∷ r ∷ [])) (filter (passes (equals 1 ∷ []) (Text id ∷ [])) (map outcome_cells xs)) ≡ map pair_of (told_of id xs)
outputs id xs =
    ap (map (λ r. output asked ((Text id ∷ []) ∷ r ∷ []))) (kept_rows outcome_cells (passes (equals 1 ∷ []) (Text id ∷ [])) (λ x. bytes_eq x.message_id id) (hit_id id) xs)
    ∙ map_map outcome_cells _ _ ∙ sym (map_map told pair_of _)

in_order : (ts : List ToldOutcome) (ordered : List Output) → Rises (placed_each [] ts) → IsPermutation (map pair_of ts) ordered → IsSorted (output_cmp asked) ordered
    → map (λ o. o.1) ordered ≡ map outcome_row (placed_each [] ts)
in_order ts ordered up same sorted =
    let all = placed_each [] ts in
    let moved = IsPermutation-trans (map pair_of all) (map pair_of ts) ordered (IsPermutation-sym _ _ (IsPermutation-map pair_of ts all (all_in ts))) same in
    ap (map (λ (o : Output). o.1)) (sorted_unique (output_cmp asked) (output_cmp_total asked) (map pair_of all) ordered (rising all up) moved sorted)
    ∙ map_map pair_of (λ (o : Output). o.1) all

pub outcomes_read : (id : List ℕ) → IsRead read_text (Text id ∷ []) (λ c rows. AreOutcomeRows rows (c.outcomes id))
outcomes_read id = reads_inside read_text (Text id ∷ []) OUTCOMES (equals 1 ∷ []) cells_shown by_place _ (read_is id) _ (λ s rows inside live f.
    let all = inside.shown live in
    let shown = all.outcomes in
    let shows = λ (r : Row). output asked ((Text id ∷ []) ∷ r ∷ []) in
    let p = passes (equals 1 ∷ []) (Text id ∷ []) in
    let same = subst (λ os. IsPermutation os f.ordered) (ap (λ rs. map shows (filter p rs)) shown.are ∙ outputs id shown.items) f.same in
    let up = all_rise (told_of id shown.items) (told_apart id shown.items (rows_apart keyed_outcomes s inside live all)) in
    subst (λ (g : List ℕ → List ToldOutcome). AreOutcomeRows rows (g id)) (sym (ap (λ (c : Content). c.outcomes) (seen_is outcomes s all))) (record {
      are = f.is ∙ in_order (told_of id shown.items) f.ordered up same f.sorted;
      good = outcomes_good id shown.items shown.good;
    }))
