use Rattle.std.proofs.Common.{Some, sym, ap, ◌∙◌, subst}
use Rattle.std.proofs.lemmas.Bool.{false≢true}
use Rattle.std.proofs.lemmas.List.Sorted.{IsPermutation-trans}
use Rattle.version_nodes.specs.Trees.{IsForest}
use Rattle.ancestry.proofs.WholeLemmas.{gathered}
use Rattle.ancestry.proofs.tree.Tree.of_links.Goals as goal

pub returns-then-not-are_forest-clause-tree : goal.returns-then-not-are_forest-clause-tree
returns-then-not-are_forest-clause-tree c = λ t forest same.
    let is = gathered t c.in_ok-sorted.sorted.items c.in_ok-links.links forest.ascending
    (IsPermutation-trans t c.args.links.items c.in_ok-sorted.sorted.items same c.in_ok-sorted.ensures) c.in_ok-links.ensures in
    absurd (false≢true (sym c.if-not-are_forest.true ∙ c.are_forest.ensures.sure (subst IsForest (sym is) forest)))

pub returns-clause-tree : goal.returns-clause-tree
returns-clause-tree c = λ t forest same.
    ap Some (gathered t c.in_ok-sorted.sorted.items c.in_ok-links.links forest.ascending
    (IsPermutation-trans t c.args.links.items c.in_ok-sorted.sorted.items same c.in_ok-sorted.ensures) c.in_ok-links.ensures)
