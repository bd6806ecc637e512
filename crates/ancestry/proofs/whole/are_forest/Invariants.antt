use Rattle.std.specs.Option.{IfSome, option_copied}
use Rattle.ancestry.specs.Whole.{Stands}
use Rattle.ancestry.proofs.WholeLemmas.{Seen}
use Rattle.ancestry.proofs.whole.are_forest.Given as goal

-- the nodes so far stand, and the last of them is the one before
abbrev pub invariant-loop-node : goal.invariant-loop-node
invariant-loop-node l = record {
  seen : Seen l.links.entries l.node-iterator;
  last : IfSome (option_copied l.before) (Stands l.links.entries);
}
