-- The rows of a table as the cells of typed rows.
use Rattle.std.specs.Prelude.{◌≡◌, true, map, List}
use Rattle.std.specs.List.{AllByRecursion}
use Rattle.sqlite.specs.Order.{Row}
use Rattle.sqlite.specs.Tree.{IsTable, rowid}
use Rattle.sqlite.specs.View.{is_int}

-- a table of which each row has an integer as its rowid, and is the cells of something good
pub record AreRows {T : Type 0} (cells : T → Row) (IsGood : T → Type 0) (rows : List Row) : Type 0 where
  pub items : List T
  pub are : rows ≡ map cells items
  pub up : IsTable rows
  pub keyed : AllByRecursion (λ r. is_int (rowid r) ≡ true) rows
  pub good : AllByRecursion IsGood items
