-- Heads in which a bug is still found.
-- This project's own rule.
use Rattle.std.specs.Prelude.{Bool, true, false, Option}
use Rattle.std.specs.List.{find}
use Rattle.version_nodes.specs.Nodes.{Node}
use Rattle.version_nodes.specs.Trees.{Ancestry, heads}
use Rattle.version_nodes.specs.Statuses.{status}
use Rattle.version_nodes.specs.declared.statuses.Status.{Status}
use Rattle.version_nodes.specs.declared.statuses.Status.TheVariants as statuses
use Rattle.bug_record.specs.declared.bug.Shared.{Shared}

abbrev pub is_found : Status → Bool
is_found statuses.Found = true
is_found statuses.Fixed = false
is_found statuses.Absent = false
is_found statuses.Done = false

-- the first head of the bug's package, in node order, at which its status is Found
abbrev pub open_head : Ancestry → Shared → Option Node
open_head tree f = find (λ v. is_found (status tree f.found f.fixed f.closed v)) (heads tree f.«package»)
