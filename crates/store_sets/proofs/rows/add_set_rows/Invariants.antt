use Rattle.std.proofs.Common.{◌≡◌, ◌++◌, drop}
use Rattle.std.specs.Prelude.{map, Some}
use Rattle.store_sets.specs.Passing.{member_row, set_rows}
use Rattle.store_sets.proofs.rows.add_set_rows.Given as goal

abbrev pub invariant-loop-member : goal.invariant-loop-member
invariant-loop-member l =
    l.rows.items ++ map (member_row l.image) (drop l.member-index l.member-items) ≡ l.fn.rows.items ++ set_rows (Some l.image)
