-- Rows under numbers of their own: a new one comes into its place.
use Rattle.table_schema.proofs.Imports.{◌≡◌, ℕ, pos, ◌<◌, Bool, true, false, ◌||◌, eqb, nat_lt, if◌then◌else◌, map, List, [], ◌∷◌, Less, int_cmp, refl, sym, ap, subst, ◌∙◌, arith, true≢false, AllByRecursion, is_eq, match_ordering, nat_tests, ints, Int, is_taken, Row, value_cmp, IsTable, rowid, put_row, IsAscending, IsTable-put_row, all-put_row, value_cmp-Int, AreRows, same_number, placed}
use Rattle.std.specs.declared.cmp.Ordering.TheVariants.{Greater}

pub all_with : {T : Type 0} (P : T → Type 0) (number : T → ℕ) (xs : List T) (x : T) → P x → AllByRecursion P xs → AllByRecursion P (placed number xs x)
all_with P number [] x fine all = (fine, tt)
all_with P number (y ∷ ys) x fine all =
    elim (nat_lt (number x) (number y)) as (λ b. AllByRecursion P (if b then x ∷ y ∷ ys else y ∷ placed number ys x))
    [ true ↦ (fine, (all.0, all.1)) | false ↦ (all.0, all_with P number ys x fine all.1) ]

or_false_parts : (a b : Bool) → (a || b) ≡ false → (a ≡ false) × (b ≡ false)
or_false_parts true b off = absurd (true≢false off)
or_false_parts false b off = (refl, off)

module _ {T : Type 0} (cells : T → Row) (number : T → ℕ) (ids : (x : T) → rowid (cells x) ≡ Int (pos (number x))) where
  -- no row has the number
  pub untaken : (xs : List T) (x : T) → is_taken (map cells xs) (cells x) ≡ false → AllByRecursion (λ y. eqb (number y) (number x) ≡ false) xs
  untaken [] x free = tt
  untaken (y ∷ ys) x free =
      let parts = or_false_parts (is_eq (value_cmp (rowid (cells y)) (rowid (cells x)))) (is_taken (map cells ys) (cells x)) free in
      (sym (same_number (number y) (number x)) ∙ rw (ids y, ids x) at parts.0, untaken ys x parts.1)

  pub placed_rows : (xs : List T) (x : T) → AllByRecursion (λ y. eqb (number y) (number x) ≡ false) xs → put_row (cells x) (map cells xs) ≡ map cells (placed number xs x)
  placed_rows [] x apart = refl
  placed_rows (y ∷ ys) x apart = rw (ids y, ids x, value_cmp-Int (pos (number y)) (pos (number x))) (go (nat_lt (number x) (number y)) refl (placed_rows ys x apart.1))
    where
      go : (b : Bool) → nat_lt (number x) (number y) ≡ b → put_row (cells x) (map cells ys) ≡ map cells (placed number ys x)
          → match_ordering (int_cmp (pos (number y)) (pos (number x))) (cells y ∷ put_row (cells x) (map cells ys)) (cells x ∷ map cells ys) (cells x ∷ cells y ∷ map cells ys)
          ≡ map cells (if b then x ∷ y ∷ ys else y ∷ placed number ys x)
      go true low more = let greater : int_cmp (pos (number y)) (pos (number x)) ≡ Greater = grind (arith, ints, nat_tests) in rw greater refl
      go false low more = let less : int_cmp (pos (number y)) (pos (number x)) ≡ Less = grind (arith, ints, nat_tests, apart.0) in rw less (ap (λ rs. cells y ∷ rs) more)

  -- the numbers rise
  pub numbers_rise : (xs : List T) → IsTable (map cells xs) → IsAscending (λ a b. number a < number b) xs
  numbers_rise [] up = tt
  numbers_rise (x ∷ xs) up = (above x xs up.0, numbers_rise xs up.1)
    where
      above : (x : T) (ys : List T) → AllByRecursion (λ r. value_cmp (rowid (cells x)) (rowid r) ≡ Less) (map cells ys) → AllByRecursion (λ y. number x < number y) ys
      above x [] low = tt
      above x (y ∷ ys) low = (
        let is = rw (ids x, ids y, value_cmp-Int (pos (number x)) (pos (number y))) at low.0 in grind (arith, ints, nat_tests, is),
        above x ys low.1,
      )

abbrev pub rows_placed : {T : Type 0} (cells : T → Row) (IsGood : T → Type 0) (number : T → ℕ) → ((x : T) → rowid (cells x) ≡ Int (pos (number x)))
    → (rows : List Row) (x : T) → is_taken rows (cells x) ≡ false → IsGood x → AreRows cells IsGood rows → AreRows cells IsGood (put_row (cells x) rows)
rows_placed cells IsGood number ids rows x free fine it = record {
  items = placed number it.items x;
  are = ap (put_row (cells x)) it.are ∙ placed_rows cells number ids it.items x (untaken cells number ids it.items x (subst (λ rs. is_taken rs (cells x) ≡ false) it.are free));
  up = IsTable-put_row (cells x) rows it.up;
  keyed = all-put_row _ (cells x) rows (rw (ids x) refl) it.keyed;
  good = all_with IsGood number it.items x fine it.good;
}
