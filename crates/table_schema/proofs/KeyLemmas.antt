-- No two rows of a table have one key, where the key is unique.
use Rattle.table_schema.proofs.Imports.{◌≡◌, inl, inr, ℤ, List, [], ◌∷◌, map, Bool, true, false, not, ◌&&◌, Less, IsTrue, refl, sym, subst, ◌∙◌, true≢false, AllByRecursion, false_from_ne_true, and_from, binary, Row, value_cmp, State, Table, Trees, IsTable, rowid, Int, some_from, all_has, agree, differ, clashes, Index, Unique, IsAscending, desk_schema, AreShown, IsInside}
use Rattle.sqlite_rules.specs.Lists.{Has}
use Rattle.sqlite_schema.specs.Rules.{passes as keeps_to}
use Rattle.table_schema.proofs.SchemaLemmas.{unique_at}
use Rattle.table_schema.proofs.TableLemmas.{KeyedTable}

-- no row of a table has the key of another one
abbrev HasNoClash : Index → List Row → List Row → Type 0
HasNoClash key all rows = AllByRecursion (λ r. clashes key.order key.columns all r ≡ false) rows

not_on : (b : Bool) → (not b && true) ≡ true → b ≡ false
not_on true h = absurd (true≢false (sym h))
not_on false h = refl

differs : (a b : ℤ) → value_cmp (Int a) (Int b) ≡ Less → differ (Int a) (Int b) ≡ true
unfolding binary
differs a b low = rw low refl

module _ {T : Type 0} (k : KeyedTable T) where
  -- no two have one key
  abbrev pub AreApart : List T → Type 0
  AreApart xs = IsAscending (λ a b. k.alike a b ≡ false) xs

  -- a row has another key than one above it
  other_key : (all : List Row) (x : T) (ys : List T) → Has all (k.base.row.cells x) → AllByRecursion (λ r. value_cmp (rowid (k.base.row.cells x)) (rowid r) ≡ Less) (map k.base.row.cells ys)
      → HasNoClash k.key all (map k.base.row.cells ys) → AllByRecursion (λ y. k.alike x y ≡ false) ys
  other_key all x [] there up alone = tt
  other_key all x (y ∷ ys) there up alone = (
    false_from_ne_true _ (λ one. true≢false (sym (some_from (λ r. agree k.key.order k.key.columns r k.key.columns (k.base.row.cells y) && differ (rowid r) (rowid (k.base.row.cells y))) all (k.base.row.cells x) there
        (and_from _ _ (k.agrees x y ∙ one) (rw ((k.id x).1, (k.id y).1) (differs (k.id x).0 (k.id y).0 (rw ((k.id x).1, (k.id y).1) at up.0))))) ∙ alone.0)),
    other_key all x ys there up.1 alone.1,
  )

  apart_in : (all : List Row) (xs : List T) → ((r : Row) → Has (map k.base.row.cells xs) r → Has all r) → IsTable (map k.base.row.cells xs) → HasNoClash k.key all (map k.base.row.cells xs) → AreApart xs
  apart_in all [] there up alone = tt
  apart_in all (x ∷ xs) there up alone = (other_key all x xs (there (k.base.row.cells x) (inl refl)) up.0 alone.1, apart_in all xs (λ r h. there r (inr h)) up.1 alone.1)

  each_alone : (db : Trees) (rows : List Row) → AllByRecursion (λ r. keeps_to Unique desk_schema db k.base.place.table r ≡ true) rows → HasNoClash k.key (db k.base.place.table.tree) rows
  each_alone db [] h = tt
  each_alone db (r ∷ rows) h = (not_on _ (sym (k.only (λ i. clashes i.order i.columns (db k.base.place.table.tree) r)) ∙ h.0), each_alone db rows h.1)

  pub rows_apart : (s : State) → IsInside s → IsTrue s.is_open → (shown : AreShown s.now.trees) → AreApart (k.base.typed s.now.trees shown).items
  rows_apart s inside live shown =
      let are = k.base.typed s.now.trees shown in
      let rows = s.now.trees k.base.place.table.tree in
      let listed = all_has (λ (table : Table). AllByRecursion (λ row. keeps_to Unique desk_schema s.now.trees table row ≡ true) (s.now.trees table.tree)) desk_schema.tables k.base.place.table (unique_at s inside live) k.base.place.is_plain.listed in
      apart_in (map k.base.row.cells are.items) are.items (λ r h. h) (subst IsTable are.are are.up)
      (subst (λ rs. HasNoClash k.key rs rs) are.are (each_alone s.now.trees rows listed))
