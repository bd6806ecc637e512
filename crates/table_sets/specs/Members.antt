-- Bugs as an answer has them: a row of number, title and submitter for each.
use Rattle.std.specs.Prelude.{◌≡◌, pos, List, [], ◌∷◌, map}
use Rattle.std.specs.List.{AllByRecursion}
use Rattle.std.specs.Str.{IsUtf8}
use Rattle.sqlite.specs.Order.{Row}
use Rattle.sqlite.specs.declared.types.Value.TheVariants.{Int, Text}
use Rattle.bug_record.specs.declared.bug.Member.{Member}

abbrev pub member_row : Member → Row
member_row m = Int (pos m.number) ∷ Text m.title ∷ Text m.submitter ∷ []

-- its texts are UTF-8
pub record HasUtf8 (m : Member) : Type 0 where
  pub title : IsUtf8 m.title
  pub submitter : IsUtf8 m.submitter

-- the rows are those of the bugs, whose texts are UTF-8
pub record AreMemberRows (rows : List Row) (ms : List Member) : Type 0 where
  pub are : rows ≡ map member_row ms
  pub good : AllByRecursion HasUtf8 ms
