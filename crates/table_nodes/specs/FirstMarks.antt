-- The marks at one node, of all sets at once.
-- This project's own rule.
use Rattle.std.specs.Prelude.{ℕ, List, Option, Some, None, if◌then◌else◌}
use Rattle.version_nodes.specs.Nodes.{Node}
use Rattle.version_nodes.specs.declared.statuses.MarkKind.{MarkKind}
use Rattle.version_nodes.specs.declared.statuses.MarkKind.TheVariants.{Found, Fixed}
use Rattle.bug_record.specs.Sets.{has}
use Rattle.version_marks.specs.declared.near.Near.{Near}

abbrev pub mark : Node → MarkKind → Near
mark v kind = record { mark = v; kind = kind }

-- the mark at a node of the set of k, by the keys of the sets that are found and fixed there; found
-- before fixed
abbrev pub mark_at : Node → List ℕ → List ℕ → ℕ → Option Near
mark_at v found fixed k = if has found k then Some (mark v Found) else if has fixed k then Some (mark v Fixed) else None
