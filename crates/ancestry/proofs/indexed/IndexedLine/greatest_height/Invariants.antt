use Rattle.std.proofs.Common.{◌≡◌, drop}
use Rattle.std.specs.Prelude.{max}
use Rattle.ancestry.specs.Heights.{greatest_height}
use Rattle.ancestry.proofs.indexed.IndexedLine.greatest_height.Given as goal

abbrev pub invariant-loop-node : goal.invariant-loop-node
invariant-loop-node l =
    max l.greatest (greatest_height l.self (drop l.node-index l.nodes)) ≡ greatest_height l.self l.nodes
