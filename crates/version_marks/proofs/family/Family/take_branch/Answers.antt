use Rattle.version_marks.specs.Children.{is_pair}
use Rattle.version_marks.proofs.FamilyLemmas.{settled}
use Rattle.version_marks.proofs.family.Family.take_branch.Goals as goal

pub invariant_of-self : goal.invariant_of-self
invariant_of-self c = (
  c.take_into-result.ensures.forest,
  settled c.take_into-result.new.tree c.take_into-result.new.children c.settle_pairs.new.children (is_pair c.args.nodes.now)
      c.take_into-result.ensures.others c.take_into-result.ensures.pairs c.settle_pairs.ensures,
)
