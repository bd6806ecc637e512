-- The rows of a table against typed rows: lists and values, and no statement.
use Rattle.std.proofs.Common.{◌≡◌, ℕ, ℤ, pos, ◌+ℤ◌, ◌<ℤ◌, Bool, true, false, ◌&&◌, ◌==◌, cond, fold, filter, map, List, [], ◌∷◌, ◌++◌, Some, Less, int_cmp, refl, sym, ap, ◌∙◌, arith}
use Rattle.std.specs.List.{AllByRecursion}
use Rattle.std.specs.Ordering.{is_eq}
use Rattle.std.proofs.lemmas.Bool.Decides.{nat_tests}
use Rattle.std.proofs.lemmas.Int.{ints}
use Rattle.sqlite.specs.declared.types.Value.{Value}
use Rattle.sqlite.specs.declared.types.Value.TheVariants.{Null, Int, Text}
use Rattle.sqlite.specs.Order.{Row, column, value_cmp}
use Rattle.sqlite.specs.Ops.{binary, is_true, from_truth}
use Rattle.sqlite.specs.Edit.{id_in, next_rowid}
use Rattle.sqlite.specs.Tree.{IsTable, rowid, put_row}
use Rattle.sqlite.specs.View.{is_int}
use Rattle.sqlite_value.proofs.OrderLemmas.{value_cmp-Int, value_cmp-Null}
use Rattle.sqlite_rules.proofs.TableLemmas.{int_is}
use Rattle.sqlite_trees.proofs.TreeLemmas.{IsTable-put_row, all-put_row}
use Rattle.sqlite_trees.proofs.ListLemmas.{ascending-filter}
use Rattle.std.proofs.lemmas.List.{map-append}
use Rattle.sqlite_sql.specs.declared.ops.BinaryOp.TheVariants.{Compare}
use Rattle.sqlite_sql.specs.declared.ops.CompareOp.TheVariants.{Eq}
use Rattle.sqlite_value.specs.declared.keys.Collation.TheVariants.{Binary}
use Rattle.sqlite.specs.Term.{holds}
use Rattle.table_forms.specs.Forms.{passes, equals, equals_at}
use Rattle.table_forms.specs.TypedRows.{AreRows}

pub truth_is : (b : Bool) → is_true (from_truth (Some b)) ≡ b
truth_is true = refl
truth_is false = refl

test_is : (v : Value) (k : ℤ) → is_true (binary (Compare Eq Binary) v (Int k)) ≡ is_eq (value_cmp v (Int k))
unfolding binary
test_is Null k = sym (ap is_eq (value_cmp-Null (Int k)))
test_is _ k = truth_is _

pub and_true : (b : Bool) → (b && true) ≡ b
and_true true = refl
and_true false = refl

pub hits : (place : ℕ) (k : ℤ) (r : Row) → passes (equals place ∷ []) (Int k ∷ []) r ≡ is_eq (value_cmp (column r place) (Int k))
hits place k r = and_true _ ∙ test_is (column r place) k

text_is : (v : Value) (t : List ℕ) → is_true (binary (Compare Eq Binary) v (Text t)) ≡ is_eq (value_cmp v (Text t))
unfolding binary
text_is Null t = sym (ap is_eq (value_cmp-Null (Text t)))
text_is _ t = truth_is _

-- whether a column has the text of a parameter
pub holds_text : (place at : ℕ) (params r : Row) (t : List ℕ) → column params at ≡ Text t → holds (params ∷ r ∷ []) (equals_at place at) ≡ is_eq (value_cmp (column r place) (Text t))
holds_text place at params r t is = ap (λ v. is_true (binary (Compare Eq Binary) (column r place) v)) is ∙ text_is (column r place) t

pub same_number : (a b : ℕ) → is_eq (value_cmp (Int (pos a)) (Int (pos b))) ≡ (a == b)
same_number a b = ap is_eq (value_cmp-Int (pos a) (pos b)) ∙ grind (arith, ints, nat_tests)

pub kept_rows : {T : Type 0} (cells : T → Row) (p : Row → Bool) (q : T → Bool) → ((x : T) → p (cells x) ≡ q x) → (xs : List T) → filter p (map cells xs) ≡ map cells (filter q xs)
kept_rows cells p q same [] = refl
kept_rows cells p q same (x ∷ xs) = go (q x) (same x) (kept_rows cells p q same xs)
  where
    go : (b : Bool) → p (cells x) ≡ b → filter p (map cells xs) ≡ map cells (filter q xs) → filter p (map cells (x ∷ xs)) ≡ map cells (cond b (x ∷ filter q xs) (filter q xs))
    go true is h = rw is (ap (λ rs. cells x ∷ rs) h)
    go false is h = rw is h

-- the row with the next rowid comes last
lower_than : (a b c : ℤ) → int_cmp a b ≡ Less → b <ℤ c → a <ℤ c
lower_than a b c p q = grind (arith, ints, nat_tests)

below_is : (v : Value) (b : ℤ) → is_int v ≡ true → id_in v <ℤ b → value_cmp v (Int b) ≡ Less
below_is v b keyed h = rw (int_is v keyed) (value_cmp-Int (id_in v) b ∙ grind (arith, ints, nat_tests))

abbrev step_rowid : ℤ → Row → ℤ
step_rowid n r = id_in (rowid r) +ℤ pos 1

below_next : (x : Row) (rows : List Row) → IsTable (x ∷ rows) → AllByRecursion (λ r. is_int (rowid r) ≡ true) (x ∷ rows)
    → AllByRecursion (λ r. id_in (rowid r) <ℤ fold step_rowid (step_rowid (pos 1) x) rows) (x ∷ rows)
below_next x [] up keyed = (omega (arith, ints), tt)
below_next x (y ∷ rows) up keyed =
    let later = below_next y rows up.1 keyed.1 in
    let lower = rw (int_is (rowid x) keyed.0, int_is (rowid y) keyed.1.0, value_cmp-Int (id_in (rowid x)) (id_in (rowid y))) at up.0.0 in
    (lower_than (id_in (rowid x)) (id_in (rowid y)) _ lower later.0, later)

last_put : (new : Row) (id : ℤ) → rowid new ≡ Int id → (rows : List Row) → AllByRecursion (λ r. is_int (rowid r) ≡ true) rows → AllByRecursion (λ r. id_in (rowid r) <ℤ id) rows → put_row new rows ≡ rows ++ new ∷ []
last_put new id is [] keyed low = refl
last_put new id is (r ∷ rows) keyed low = rw (is, below_is (rowid r) id keyed.0 low.0) (ap (λ rs. r ∷ rs) (last_put new id is rows keyed.1 low.1))

pub put_next : (new : Row) (rows : List Row) → IsTable rows → AllByRecursion (λ r. is_int (rowid r) ≡ true) rows → rowid new ≡ Int (next_rowid rows) → put_row new rows ≡ rows ++ new ∷ []
put_next new [] up keyed is = refl
put_next new (x ∷ rows) up keyed is = last_put new _ is (x ∷ rows) keyed (below_next x rows up keyed)

-- ---- typed rows

pub all_append : {X : Type 0} (P : X → Type 0) (xs ys : List X) → AllByRecursion P xs → AllByRecursion P ys → AllByRecursion P (xs ++ ys)
all_append P [] ys h more = more
all_append P (x ∷ xs) ys h more = (h.0, all_append P xs ys h.1 more)

pub all_filter : {X : Type 0} (P : X → Type 0) (p : X → Bool) (xs : List X) → AllByRecursion P xs → AllByRecursion P (filter p xs)
all_filter P p [] h = tt
all_filter P p (x ∷ xs) h = elim (p x) as (λ b. AllByRecursion P (cond b (x ∷ filter p xs) (filter p xs))) [ true ↦ (h.0, all_filter P p xs h.1) | false ↦ all_filter P p xs h.1 ]

-- a row with the next rowid comes behind the others
abbrev pub rows_more : {T : Type 0} (cells : T → Row) (IsGood : T → Type 0) (rows : List Row) (x : T) → rowid (cells x) ≡ Int (next_rowid rows) → IsGood x → AreRows cells IsGood rows → AreRows cells IsGood (put_row (cells x) rows)
rows_more cells IsGood rows x is fine it = record {
  items = it.items ++ x ∷ [];
  are = put_next (cells x) rows it.up it.keyed is ∙ ap (λ rs. rs ++ cells x ∷ []) it.are ∙ sym (map-append cells it.items (x ∷ []));
  up = IsTable-put_row (cells x) rows it.up;
  keyed = all-put_row _ (cells x) rows (rw is refl) it.keyed;
  good = all_append IsGood it.items (x ∷ []) it.good (fine, tt);
}

-- rows are left out
abbrev pub rows_less : {T : Type 0} (cells : T → Row) (IsGood : T → Type 0) (rows : List Row) (p : Row → Bool) (q : T → Bool) → ((x : T) → p (cells x) ≡ q x) → AreRows cells IsGood rows → AreRows cells IsGood (filter p rows)
rows_less cells IsGood rows p q same it = record {
  items = filter q it.items;
  are = ap (filter p) it.are ∙ kept_rows cells p q same it.items;
  up = ascending-filter _ p rows it.up;
  keyed = all_filter _ p rows it.keyed;
  good = all_filter _ q it.items it.good;
}
