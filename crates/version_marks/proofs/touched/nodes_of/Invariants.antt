use Rattle.std.proofs.Common.{◌≡◌, ◌++◌, map}
use Rattle.version_marks.proofs.touched.nodes_of.Given as goal

abbrev pub invariant-loop-row : goal.invariant-loop-row
invariant-loop-row l = l.nodes.items ++ map (λ row. row.node) l.row-iterator.rest.items ≡ map (λ row. row.node) l.fn.rows.items
