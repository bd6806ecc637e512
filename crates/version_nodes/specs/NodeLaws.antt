-- The laws of the equality and the order of nodes, which their impls owe: over all nodes, also
-- those that are not valid.
use Rattle.std.proofs.Common.{◌≡◌}
use Rattle.std.specs.Cmp.{IsEquivalence, IsTotalOrder, and_equiv, on_equiv, on_total, then_total, both_tied}
use Rattle.std.specs.Cmp.Lexicographic.{nat_list_eq_equiv, nat_list_cmp_total, texts_ties}
use Rattle.std.specs.Ordering.{eq_by_cmp}
use Rattle.debver.proofs.OrderLaws.{total_cmp_total, total_eq}
use Rattle.version_nodes.specs.Nodes.{Node, same_node, node_cmp}

pub same_node_equiv : IsEquivalence same_node
same_node_equiv = and_equiv (on_equiv (λ (n : Node). n.source) nat_list_eq_equiv)
    (on_equiv (λ (n : Node). n.version) nat_list_eq_equiv)

pub node_cmp_total : IsTotalOrder node_cmp
node_cmp_total = then_total (on_total (λ (n : Node). n.source) nat_list_cmp_total)
    (on_total (λ (n : Node). n.version) total_cmp_total)

-- nodes compare `Equal` exactly where they are equal
pub node_ties : (a b : Node) → same_node a b ≡ eq_by_cmp node_cmp a b
node_ties a b = both_tied _ _ _ _ (texts_ties a.source b.source) (total_eq a.version b.version)
