use Rattle.std.proofs.Common.{◌∙◌}
use Rattle.ancestry.proofs.ChangeLemmas.{put_back_unknown}
use Rattle.ancestry.proofs.branch.put_back_one.Goals as goal

pub returns-in-Unknown : goal.returns-in-Unknown
returns-in-Unknown c = λ t nodes h f.
    put_back_unknown t c.args.links.now.entries c.remove.new.self.entries c.args.node.now nodes f (h ∙ c.in-Unknown.is)
    c.remove.ensures.updates.0 c.remove.ensures.ordered
