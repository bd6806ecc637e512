use Rattle.std.proofs.Common.{◌≡◌, ◌++◌, drop}
use Rattle.table_content.specs.BranchLists.{link_puts}
use Rattle.table_content.proofs.branches.put_links.Given as goal

abbrev pub invariant-loop-node : goal.invariant-loop-node
invariant-loop-node l =
    l.edits ++ link_puts l.tree (drop l.node-index l.changed) ≡ l.fn.edits ++ link_puts l.tree l.changed
