use Rattle.std.proofs.Common.{◌≡◌, length}
use Rattle.std.specs.Option.{option_copied}
use Rattle.version_nodes.specs.Trees.{line}
use Rattle.ancestry.proofs.LineLemmas.{line_above}
use Rattle.version_nodes.specs.Statuses.{first_kind}
use Rattle.ancestry.proofs.node_status.first_kind.Given as goal

-- the line from here on decides as the whole one does
abbrev pub invariant-loop-at : goal.invariant-loop-at
invariant-loop-at l =
    first_kind l.found l.fixed (line_above (line l.tree) (option_copied l.at))
    ≡ first_kind l.found l.fixed (line l.tree l.node)

abbrev pub decreases-loop-at : goal.decreases-loop-at
decreases-loop-at l = length (line_above (line l.tree) (option_copied l.at))
