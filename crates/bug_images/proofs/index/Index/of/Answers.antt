use Rattle.std.proofs.Common.{ap, ◌∙◌}
use Rattle.bug_images.specs.Index.{bug_at}
use Rattle.bug_images.proofs.IndexLemmas.{positions-right}
use Rattle.bug_images.proofs.index.Index.of.Goals as goal

pub invariant_of-result : goal.invariant_of-result
invariant_of-result c = λ n. ap (bug_at c.args.images.now) (c.in_ok-positions.ensures n) ∙ positions-right c.args.images.now n
