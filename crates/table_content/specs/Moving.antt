-- Marks of a set that take the place of others, of which none is lost.
-- This project's own rule.
use Rattle.std.specs.Prelude.{◌&&◌, ◌||◌, not, Bool, true, false, List, [], ◌∷◌, filter, if◌then◌else◌}
use Rattle.std.specs.List.{list_all}
use Rattle.version_nodes.specs.Nodes.{Node, same_node}
use Rattle.version_nodes.specs.Trees.{has_node}
use Rattle.version_nodes.specs.declared.statuses.MarkKind.{MarkKind}
use Rattle.version_nodes.specs.declared.statuses.MarkKind.TheVariants as kinds
use Rattle.bug_record.specs.declared.bug.SetImage.{SetImage}
use Rattle.version_marks.specs.declared.near.Near.{Near}

-- whether a node is marked
abbrev pub is_marked : List Node → List Node → Node → Bool
is_marked found fixed v = has_node found v || has_node fixed v

-- whether a node is marked as this, found before fixed
abbrev pub is_marked_as : List Node → List Node → MarkKind → Node → Bool
is_marked_as found fixed kinds.Found v = has_node found v
is_marked_as found fixed kinds.Fixed v = not (has_node found v) && has_node fixed v

-- whether a nearest mark was a mark of this kind among these
abbrev pub stood : List Node → List Node → Near → Bool
stood found fixed near = is_marked_as found fixed near.kind near.mark

-- whether each of these nodes is marked
abbrev pub are_marked : List Node → List Node → List Node → Bool
are_marked found fixed nodes = list_all (is_marked found fixed) nodes

-- whether the image has a mark at each node at which these lists have one
abbrev pub loses_none : SetImage → List Node → List Node → Bool
loses_none i found fixed = are_marked i.shared.found i.shared.fixed found && are_marked i.shared.found i.shared.fixed fixed

-- whether these nodes are part of others, in the same order
abbrev pub is_part : List Node → List Node → Bool
is_part [] nodes = true
is_part (p ∷ ps) [] = false
is_part (p ∷ ps) (n ∷ nodes) = if same_node p n then is_part ps nodes else is_part (p ∷ ps) nodes

-- whether the image has all these marks, each as what it is
abbrev pub adds_alone : SetImage → List Node → List Node → Bool
adds_alone i found fixed = is_part found i.shared.found && is_part fixed i.shared.fixed

-- the nodes that are not among these
abbrev pub others : List Node → List Node → List Node
others nodes all = filter (λ v. not (has_node nodes v)) all
