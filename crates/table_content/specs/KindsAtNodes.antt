-- What is asked of a content: by the key of a bug's set, and by one row of nearest marks.
-- This project's own rule.
use Rattle.std.specs.Prelude.{ℕ, Bool, false, List, Option, Some, option_map, if◌then◌else◌}
use Rattle.std.specs.Option.{option_map_or}
use Rattle.version_nodes.specs.Nodes.{Node}
use Rattle.version_nodes.specs.Trees.{has_node}
use Rattle.version_nodes.specs.declared.statuses.MarkKind.{MarkKind}
use Rattle.version_nodes.specs.declared.statuses.MarkKind.TheVariants.{Found, Fixed}
use Rattle.bug_record.specs.declared.bug.Shared.{Shared}
use Rattle.table_content.specs.Content.{Content}
use Rattle.table_content.specs.View.{shared_of}

-- whether the set of a key is there and its shared fields pass the test
abbrev pub set_passes : (Shared → Bool) → Content → ℕ → Bool
set_passes test c k = option_map_or (λ f. test (shared_of c k f)) (c.fields k) false

-- whether the bug has a set that passes
abbrev pub bug_passes : (Shared → Bool) → Content → ℕ → Bool
bug_passes test c n = option_map_or (set_passes test c) (c.key n) false

-- the kind of a node's own mark, or else of the nearest one that a row says
abbrev pub kind_here : List Node → List Node → Option MarkKind → Node → Option MarkKind
kind_here found fixed nearest v = if has_node found v then Some Found else if has_node fixed v then Some Fixed else nearest

-- as the content says it
abbrev pub kind_of : Content → ℕ → Node → Option MarkKind
kind_of c k v = kind_here (c.found k) (c.fixed k) (option_map (λ near. near.kind) (c.near k v)) v
