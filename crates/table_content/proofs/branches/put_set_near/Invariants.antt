use Rattle.std.proofs.Common.{◌≡◌, ◌++◌}
use Rattle.table_content.specs.BranchLists.{set_near_puts}
use Rattle.table_content.proofs.branches.put_set_near.Given as goal

abbrev pub invariant-loop-set : goal.invariant-loop-set
invariant-loop-set l =
    l.edits ++ set_near_puts l.set-iterator.rest.items ≡ l.fn.edits ++ set_near_puts l.fn.rows.items
