use Rattle.std.proofs.Common.{not, sym, ap, ◌∙◌}
use Rattle.std.proofs.lemmas.Bool.{false≢true}
use Rattle.bug_record.proofs.EqualLemmas.{others-differ}
use Rattle.bug_images.proofs.equal.same_shared.Goals as goal

pub returns-else-not-differ_at_once : goal.returns-else-not-differ_at_once
returns-else-not-differ_at_once c =
    ap not c.if-not-differ_at_once.false
    ∙ others-differ c.args.a.now c.args.b.now
    (λ e. false≢true (sym (c.differ_at_once.ensures e) ∙ c.if-not-differ_at_once.false))
