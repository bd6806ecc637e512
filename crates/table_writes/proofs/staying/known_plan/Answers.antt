use Rattle.std.proofs.Common.{sym, ◌∙◌}
use Rattle.table_writes.proofs.StaySteps.{known_stays}
use Rattle.table_writes.proofs.staying.known_plan.Goals as goal

pub returns-clause-plan : goal.returns-clause-plan
returns-clause-plan c =
    λ x here. known_stays c.args.family.now c.args.image.now c.in-Some.old.now c.in_ok-stay_of.field-0
    (rw c.fields-before.ensures at c.in_ok-stay_of.ensures.plan)
    (sym c.as_slice.ensures ∙ c.equal_members.ensures.equal c.if-not-equal_members.false ∙ c.as_slice-2.ensures) x
    (rw c.in-Some.is at here)
