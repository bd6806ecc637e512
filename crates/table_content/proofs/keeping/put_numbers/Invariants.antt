use Rattle.std.proofs.Common.{◌≡◌, ◌++◌, drop}
use Rattle.table_content.specs.KeptOutcomeLists.{number_puts}
use Rattle.table_content.proofs.keeping.put_numbers.Given as goal

abbrev pub invariant-loop-number : goal.invariant-loop-number
invariant-loop-number l =
    l.edits ++ number_puts l.id l.place (drop l.number-index l.numbers) ≡ l.fn.edits ++ number_puts l.id l.place l.numbers
