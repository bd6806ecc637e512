use Rattle.std.proofs.Common.{◌≡◌, ◌++◌, is_some}
use Rattle.std.specs.BTreeMap.{get}
use Rattle.version_nodes.specs.Nodes.{node_cmp}
use Rattle.version_marks.specs.Walks.{rows_below}
use Rattle.version_marks.proofs.near.push_below.Given as goal

abbrev pub invariant-loop-child : goal.invariant-loop-child
invariant-loop-child l =
    l.rows.items ++ rows_below (λ c. is_some (get node_cmp l.marks c)) l.near l.child-iterator
    ≡ l.fn.rows.items ++ rows_below (λ c. is_some (get node_cmp l.marks c)) l.near l.children.keys
