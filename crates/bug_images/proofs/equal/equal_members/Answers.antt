use Rattle.std.proofs.Common.{sym, ap, ◌∙◌}
use Rattle.std.proofs.lemmas.Bool.{false≢true}
use Rattle.bug_images.specs.Changes.{same_members}
use Rattle.bug_images.proofs.KeptLemmas.{members-same, same-self}
use Rattle.bug_images.proofs.equal.equal_members.Goals as goal

pub returns-clause-equal : goal.returns-clause-equal
returns-clause-equal c = λ e. members-same c.args.a.now c.args.b.now (sym c.same_members.ensures ∙ e)

pub returns-clause-other : goal.returns-clause-other
returns-clause-other c = λ f e.
    false≢true (sym f ∙ c.same_members.ensures ∙ sym (ap (same_members c.args.a.now) e) ∙ same-self c.args.a.now)
