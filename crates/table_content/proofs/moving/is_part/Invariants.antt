use Rattle.std.proofs.Common.{◌≡◌, drop}
use Rattle.table_content.specs.Moving.{is_part}
use Rattle.table_content.proofs.moving.is_part.Given as goal

abbrev pub invariant-loop-node : goal.invariant-loop-node
invariant-loop-node l = is_part l.left (drop l.node-index l.nodes) ≡ is_part l.fn.part l.nodes
