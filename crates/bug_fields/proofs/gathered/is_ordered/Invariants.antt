use Rattle.std.proofs.Common.{◌≡◌, None, drop}
use Rattle.std.specs.Option.{option_copied}
use Rattle.bug_fields.specs.Gathered.{is_ordered}
use Rattle.bug_fields.proofs.gathered.is_ordered.Given as goal

abbrev pub invariant-loop-node : goal.invariant-loop-node
invariant-loop-node l = is_ordered (option_copied l.last) (drop l.node-index l.nodes) ≡ is_ordered None l.nodes
