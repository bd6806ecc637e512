use Rattle.std.proofs.Common.{sym, subst}
use Rattle.std.specs.List.Sorted.{IsStrictlySortedBy}
use Rattle.version_nodes.specs.Nodes.{node_cmp}
use Rattle.bug_fields.proofs.GatheredLemmas.{no_nodes-ordered}
use Rattle.bug_fields.proofs.gathered.GatheredNodes.new.Goals as goal

pub invariant_of-result : goal.invariant_of-result
invariant_of-result c = subst (IsStrictlySortedBy node_cmp) (sym c.new.ensures) no_nodes-ordered
