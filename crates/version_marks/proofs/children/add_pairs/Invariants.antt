use Rattle.std.proofs.Common.{◌≡◌, true, false, take}
use Rattle.version_nodes.specs.Nodes.{Node}
use Rattle.version_marks.specs.Children.{is_child, is_pair}
use Rattle.version_marks.proofs.children.add_pairs.Given as goal

abbrev pub invariant-loop-place : goal.invariant-loop-place
invariant-loop-place l = record {
  others : (p c : Node) → is_pair l.nodes c p ≡ false → is_child l.children p c ≡ is_child l.fn.children p c;
  kept : (p c : Node) → is_child l.fn.children p c ≡ true → is_child l.children p c ≡ true;
  added : (p c : Node) → is_pair (take l.place l.nodes) c p ≡ true → is_child l.children p c ≡ true;
}
