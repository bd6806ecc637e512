-- What a query over one table of a desk answers, whatever the table's rows are.
use Rattle.table_schema.proofs.Imports.{◌≡◌, ℕ, ◌<◌, ◌≤◌, ◌+◌, pos, suc, zero, add-one, Bool, false, List, [], ◌∷◌, map, filter, length, drop, get_or, is_lt, Option, Some, None, option_map, Result, Ok, Err, IfOk, IsTrue, refl, sym, ap, subst, ◌∙◌, arith, AllByRecursion, IsPermutation, option_map_or, nat_tests, ints, Row, value_cmp, Query, Output, output, output_cmp, State, Term, col, eval_all, Int, value_cmp-Int, then-Equal, Key, StoreFault, passes, query_of, number_row, with_numbers, IsQueryOf, found, map_map, numbers_in_order, kept_rows, Content, desk_schema, AreShown, IsInside, seen}
use Rattle.sqlite_value.specs.declared.keys.Collation.TheVariants.{Binary}
use Rattle.table_schema.proofs.AnyOrder.{in_any, only_order}
use Rattle.table_schema.proofs.StatementLemmas.{IsRead, reads_inside}
use Rattle.table_schema.proofs.TableLemmas.{DeskTable, seen_is}

-- ---- rows in any order

module _ {T : Type 0} (t : DeskTable T) (sql : List ℕ) (params : Row) (tests shown : List Term) (names : List (List ℕ)) where
  -- what is to be known of a query that shows something of each row that passes
  pub record Asks (A : Type 0) (P : Content → List Row → Type 0) : Type 1 where
    pub text : IsQueryOf desk_schema sql params t.place.table.tree tests shown [] names
    pub is_hit : T → Bool
    pub hits : (x : T) → passes tests params (t.row.cells x) ≡ is_hit x
    -- what it shows
    pub of : T → A
    pub row : A → Row
    pub back : Row → A
    pub same : (a : A) → back (row a) ≡ a
    pub shows : (x : T) → eval_all shown (params ∷ t.row.cells x ∷ []) ≡ row (of x)
    -- what is to be known of the rows, beside that they are good
    pub AreFine : List T → Type 0
    pub fine : (s : State) → IsInside s → IsTrue s.is_open → (all : AreShown s.now.trees) → AreFine (t.typed s.now.trees all).items
    pub says : (xs : List T) (c : Content) → AreFine xs → AllByRecursion t.row.IsGood xs → (ys : List A) → IsPermutation (map of (filter is_hit xs)) ys → P (t.says xs c) (map row ys)

  pub asks : {A : Type 0} (P : Content → List Row → Type 0) → Asks A P → IsRead sql params P
  asks P it = reads_inside sql params t.place.table.tree tests shown [] names it.text P (λ s rows inside live f.
      let all = inside.shown live in
      let are = t.typed s.now.trees all in
      let hit = filter it.is_hit are.items in
      let show = λ (r : Row). eval_all shown (params ∷ r ∷ []) in
      let p = passes tests params in
      let cells : map show (filter p (s.now.trees t.place.table.tree)) ≡ map it.row (map it.of hit) =
      ap (λ rs. map show (filter p rs)) are.are ∙ ap (map show) (kept_rows t.row.cells p it.is_hit it.hits are.items) ∙ map_map t.row.cells show hit
      ∙ (λ i. map (λ x. it.shows x i) hit) ∙ sym (map_map it.of it.row hit) in
      let any = in_any it.row it.back it.same (map it.of hit) rows (subst (λ os. IsPermutation os rows) cells (found t.place.table.tree tests shown [] s.now.trees params rows f)) in
      subst (P (seen s)) (sym any.0) (subst (λ c. P c (map it.row (map it.back rows))) (sym (seen_is t s all))
      (it.says are.items (seen s) (it.fine s inside live all) are.good (map it.back rows) any.1)))

module _ {T A : Type 0} (of : T → A) (row : A → Row) where
  mapped : (o : Option T) → map of (option_map_or (λ x. x ∷ []) o []) ≡ option_map_or (λ a. a ∷ []) (option_map of o) []
  mapped None = refl
  mapped (Some x) = refl

  shown_as : (o : Option A) → map row (option_map_or (λ a. a ∷ []) o []) ≡ option_map_or (λ a. row a ∷ []) o []
  shown_as None = refl
  shown_as (Some a) = refl

  -- where one row passes at most
  pub one_answer : (o : Option T) (xs : List T) → xs ≡ option_map_or (λ x. x ∷ []) o [] → (ys : List A) → IsPermutation (map of xs) ys → map row ys ≡ option_map_or (λ a. row a ∷ []) (option_map of o) []
  one_answer o xs one ys any =
      ap (map row) (only_order (option_map of o) ys (subst (λ zs. IsPermutation zs ys) (ap (map of) one ∙ mapped o) any)) ∙ shown_as (option_map of o)

-- what holds of the value that is read holds of the answer
pub answer_is : {A B : Type 0} (of : A → B) (P : B → Type 0) (value : B) (r : Result A StoreFault) → P value → IfOk r (λ a. of a ≡ value) → IfOk r (λ a. P (of a))
answer_is of P value (Ok a) good is = subst P (sym is) good
answer_is of P value (Err e) good is = tt

-- ---- one column of numbers, ascending

abbrev pair_of : ℕ → Output
pair_of n = (number_row n, number_row n)

abbrev pub by_column : ℕ → List (Term × Key)
by_column at = (col 1 at, record { collation = Binary; descending = false }) ∷ []

module _ {T : Type 0} (t : DeskTable T) (sql : List ℕ) (params : Row) (tests : List Term) (at : ℕ) (names : List (List ℕ)) where
  abbrev pub asked : Query
  asked = query_of t.place.table.tree tests (col 1 at ∷ []) (by_column at)

  -- what is to be known of a query of the numbers in a column
  pub record AsksNumbers (told : Content → List ℕ) : Type 0 where
    pub text : IsQueryOf desk_schema sql params t.place.table.tree tests (col 1 at ∷ []) (by_column at) names
    pub is_hit : T → Bool
    pub hits : (x : T) → passes tests params (t.row.cells x) ≡ is_hit x
    pub of : T → ℕ
    pub shows : (x : T) → output asked (params ∷ t.row.cells x ∷ []) ≡ (number_row (of x), number_row (of x))
    pub says : (xs : List T) (c : Content) → told (t.says xs c) ≡ with_numbers [] (map of (filter is_hit xs))

  low_is : (a b : ℕ) → is_lt (output_cmp asked (pair_of b) (pair_of a)) ≡ false → a ≤ b
  low_is a b h = let order = sym (ap is_lt (then-Equal (value_cmp (Int (pos b)) (Int (pos a))) ∙ value_cmp-Int (pos b) (pos a))) ∙ h in grind (arith, ints, nat_tests, order)

  pub asks_numbers : (told : Content → List ℕ) → AsksNumbers told → IsRead sql params (λ c rows. rows ≡ map number_row (told c))
  asks_numbers told it = reads_inside sql params t.place.table.tree tests (col 1 at ∷ []) (by_column at) names it.text _ (λ s rows inside live f.
      let all = inside.shown live in
      let are = t.typed s.now.trees all in
      let hit = filter it.is_hit are.items in
      let show = λ (r : Row). output asked (params ∷ r ∷ []) in
      let p = passes tests params in
      let outputs : map show (filter p (s.now.trees t.place.table.tree)) ≡ map pair_of (map it.of hit) =
      ap (λ rs. map show (filter p rs)) are.are ∙ ap (map show) (kept_rows t.row.cells p it.is_hit it.hits are.items) ∙ map_map t.row.cells show hit
      ∙ (λ i. map (λ x. it.shows x i) hit) ∙ sym (map_map it.of pair_of hit) in
      f.is ∙ numbers_in_order (output_cmp asked) low_is (map it.of hit) f.ordered (subst (λ os. IsPermutation os f.ordered) outputs f.same) f.sorted
      ∙ ap (map number_row) (sym (it.says are.items (seen s))) ∙ ap (λ c. map number_row (told c)) (sym (seen_is t s all)))

-- ---- one row of an answer after another

module _ {A : Type 0} (row : A → Row) (IsGood : A → Type 0) where
  -- a row is that of the first that is left
  abbrev pub IsNext : Row → List A → List A → Type 0
  IsNext r rest more = (a : A) × (r ≡ row a) × IsGood a × (rest ≡ a ∷ more)

  next_in : (xs : List A) (at : ℕ) (r : Row) → AllByRecursion IsGood xs → at < length (map row xs) → r ≡ get_or (map row xs) at r → IsNext r (drop at xs) (drop (suc at) xs)
  next_in [] at r good low is = absurd (omega arith)
  next_in (x ∷ xs) zero r good low is = (x, is, good.0, refl)
  next_in (x ∷ xs) (suc at) r good low is = next_in xs at r good.1 (omega (arith, low)) is

  pub next_at : (rows : List Row) (xs : List A) (at : ℕ) (r : Row) → AllByRecursion IsGood xs → rows ≡ map row xs → at < length rows → r ≡ get_or rows at r → IsNext r (drop at xs) (drop (at + 1) xs)
  next_at rows xs at r good are low is =
      let h = next_in xs at r good (subst (λ rs. at < length rs) are low) (subst (λ rs. r ≡ get_or rs at r) are is) in
      (h.0, h.1, h.2, h.3 ∙ ap (λ n. h.0 ∷ drop n xs) (sym (add-one at)))
