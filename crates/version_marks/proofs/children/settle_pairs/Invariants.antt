use Rattle.std.proofs.Common.{◌≡◌, not, ◌||◌, ◌&&◌, take, Some}
use Rattle.version_nodes.specs.Nodes.{Node}
use Rattle.ancestry.specs.Links.{has_parent}
use Rattle.version_marks.specs.Children.{is_child, is_pair}
use Rattle.version_marks.proofs.children.settle_pairs.Given as goal

abbrev pub invariant-loop-place : goal.invariant-loop-place
invariant-loop-place l =
    (p c : Node) → is_child l.children p c
    ≡ ((not (is_pair (take l.place l.nodes) c p) || has_parent l.tree c (Some p)) && is_child l.fn.children p c)
