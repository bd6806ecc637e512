-- Whether the bugs of a set are found at a node, by the set's own marks and the nearest one.
-- This project's own rule.
use Rattle.std.specs.Prelude.{◌==◌, ◌&&◌, not, ℕ, Bool, true, false, List, length, Option, Some, None, option_map, if◌then◌else◌}
use Rattle.version_nodes.specs.Nodes.{Node}
use Rattle.version_nodes.specs.Statuses.{status_from}
use Rattle.version_nodes.specs.declared.statuses.MarkKind.{MarkKind}
use Rattle.version_nodes.specs.declared.statuses.MarkKind.TheVariants.{Found, Fixed}
use Rattle.bug_record.specs.Heads.{is_found}
use Rattle.bug_record.specs.declared.bug.Shared.{Shared}
use Rattle.table_content.specs.Content.{Content}
use Rattle.table_content.specs.KindsAtNodes.{kind_here}

-- whether bugs with these marks, closed or not, are found at a node, where the nearest mark from
-- there is of this kind
abbrev pub is_found_by : List Node → List Node → Bool → Option MarkKind → Node → Bool
is_found_by found fixed closed nearest v =
    is_found (status_from (kind_here found fixed nearest v) (length found == 0) (length fixed == 0) closed)

-- the kind of the nearest mark of the key's set, as its row says it
abbrev pub near_kind : Content → ℕ → Node → Option MarkKind
near_kind c k v = option_map (λ near. near.kind) (c.near k v)

-- whether bugs of the set of the key that have these shared fields are found at a node
abbrev pub is_found_at : Content → ℕ → Node → Shared → Bool
is_found_at c k v f = is_found_by f.found f.fixed f.closed (near_kind c k v) v

-- and are not archived
abbrev pub is_shown_at : Content → ℕ → Node → Shared → Bool
is_shown_at c k v f = not f.archived && is_found_at c k v f

-- whether those of the set of the key, closed or not, are found by the marks that the tables have
abbrev pub is_found_in : Content → ℕ → Node → Bool → Bool
is_found_in c k v closed = is_found_by (c.found k) (c.fixed k) closed (near_kind c k v) v

-- What a nearest mark decides without the marks of its set: bugs are found where it says found and
-- they are not closed, and they are not found where it says fixed.
-- Where bugs are closed and it says found, and where there is none, the marks are needed.
abbrev pub decided : Option MarkKind → Bool → Option Bool
decided (Some Found) closed = if closed then None else Some true
decided (Some Fixed) closed = Some false
decided None closed = None
