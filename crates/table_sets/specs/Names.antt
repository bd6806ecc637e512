-- The texts of a set as an answer has them, in any order.
use Rattle.std.specs.Prelude.{◌≡◌, ℕ, List, [], ◌∷◌}
use Rattle.std.specs.List.{AllByRecursion}
use Rattle.std.specs.Str.{IsUtf8}
use Rattle.sqlite.specs.Order.{Row}
use Rattle.sqlite.specs.declared.types.Value.TheVariants.{Text}
use Rattle.bug_record.specs.Ordered.{with_each}
use Rattle.bug_record.specs.PackageSets.{name_cmp}

abbrev pub text_row : List ℕ → Row
text_row t = Text t ∷ []

-- They are these texts, in any order.
pub record AreNamesOf (texts ns : List (List ℕ)) : Type 0 where
  pub valid : AllByRecursion IsUtf8 ns
  pub all : with_each name_cmp [] ns ≡ texts
