use Rattle.std.proofs.Common.{◌≡◌, drop}
use Rattle.std.specs.Prelude.{nat_lt}
use Rattle.ancestry.specs.Heights.{greatest_height}
use Rattle.ancestry.proofs.indexed.IndexedLine.any_above.Given as goal

abbrev pub invariant-loop-node : goal.invariant-loop-node
invariant-loop-node l =
    nat_lt l.height (greatest_height l.self (drop l.node-index l.nodes)) ≡ nat_lt l.height (greatest_height l.self l.nodes)
