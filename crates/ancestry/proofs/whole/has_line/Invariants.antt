use Rattle.std.proofs.Common.{◌+◌, ◌≤◌, length}
use Rattle.version_nodes.specs.Trees.{line, IsForest}
use Rattle.ancestry.specs.Whole.{HasLine}
use Rattle.ancestry.proofs.whole.has_line.Given as goal

-- a line from here is one from the first node, and a forest's has no more steps than are left
abbrev pub invariant-loop-parent : goal.invariant-loop-parent
invariant-loop-parent l = record {
  from : HasLine l.links.entries l.at → HasLine l.links.entries l.from;
  short : IsForest l.links.entries → length (line l.links.entries l.at) ≤ l.steps + 1;
}

abbrev pub decreases-loop-parent : goal.decreases-loop-parent
decreases-loop-parent l = l.steps
