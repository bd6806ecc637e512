use Rattle.std.proofs.Common.{subst}
use Rattle.std.specs.Option.{option_copied}
use Rattle.std.proofs.Common.{Result}
use Rattle.bug_record.specs.Desk.{Desk}
use Rattle.bug_record.specs.Plans.{IsPlanOf}
use Rattle.bug_record.specs.declared.command.Refusal.{Refusal}
use Rattle.bug_core.specs.Refused.{IsRefusedAs}
use Rattle.bug_core.proofs.StepLemmas.{step-with}
use Rattle.bug_core.proofs.plans.plan.Goals as goal

pub returns-clause-right : goal.returns-clause-right
returns-clause-right c = λ d sh head.
    subst (λ (after : Result Desk Refusal). IsPlanOf d after c.plan_command.result)
    (step-with d (option_copied c.args.open_head) c.args.from.now c.args.command.now head)
    (c.plan_command.ensures.plan.right d sh)

pub returns-clause-refusals : goal.returns-clause-refusals
returns-clause-refusals c = λ d next known names head.
    subst (λ (after : Result Desk Refusal). IsRefusedAs after c.plan_command.result)
    (step-with d (option_copied c.args.open_head) c.args.from.now c.args.command.now head)
    (c.plan_command.ensures.plan.refusals d next known names)

pub returns-clause-fits : goal.returns-clause-fits
returns-clause-fits c = c.plan_command.ensures.plan.fits

pub returns-clause-own : goal.returns-clause-own
returns-clause-own c = c.plan_command.ensures.plan.own

pub returns-clause-apart : goal.returns-clause-apart
returns-clause-apart c = c.plan_command.ensures.plan.apart

pub returns-clause-members : goal.returns-clause-members
returns-clause-members c = c.plan_command.ensures.plan.members

pub returns-clause-covers : goal.returns-clause-covers
returns-clause-covers c = c.plan_command.ensures.plan.covers

pub returns-clause-brings : goal.returns-clause-brings
returns-clause-brings c = c.plan_command.ensures.plan.brings

pub returns-clause-later : goal.returns-clause-later
returns-clause-later c = c.plan_command.ensures.plan.later

pub returns-clause-leaves : goal.returns-clause-leaves
returns-clause-leaves c = c.plan_command.ensures.leaves
