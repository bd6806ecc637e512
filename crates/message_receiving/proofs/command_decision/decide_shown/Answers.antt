use Rattle.std.proofs.Common.{◌≤◌, [], ◌∷◌, ◌∙◌, ap}
use Rattle.std.proofs.lemmas.Result.{IfOk-weaker}
use Rattle.bug_record.specs.Sets.{Each}
use Rattle.bug_record.specs.Images.{AreApart, HasMember, FitsDesk}
use Rattle.bug_record.specs.Plans.{CoverImages, BringNone}
use Rattle.bug_record.specs.declared.command.Change.{Change}
use Rattle.store_contract.specs.Telling.{refusal_meant}
use Rattle.bug_images.specs.Alike.{BeginAlike}
use Rattle.message_receiving.proofs.CommandLemmas.{begins-with, planned, if_planned, decides_planned, decides_refused}
use Rattle.message_receiving.proofs.command_decision.decide_shown.Goals as goal

pub decide_change-requires-clause-members : goal.decide_change-requires-clause-members
decide_change-requires-clause-members c =
    if_planned (λ (change : Change). Each HasMember change.images) c.plan-planned.result c.in-Ok.change
    c.in-Ok.ensures.change.1 c.plan-planned.ensures.members

pub decide_change-requires-clause-leaves : goal.decide_change-requires-clause-leaves
decide_change-requires-clause-leaves c =
    begins-with c.args.command.now c.args.images.now c.in-Ok.change.images
    (λ i e l. if_planned (λ (change : Change). BeginAlike (i ∷ []) change.images) c.plan-planned.result c.in-Ok.change
    c.in-Ok.ensures.change.1 (c.plan-planned.ensures.leaves i e l))

pub returns-in-Ok-clause-decided : goal.returns-in-Ok-clause-decided
returns-in-Ok-clause-decided c =
    IfOk-weaker c.decide_change.result _ _
    (λ decision made d names sh head free.
    let images = c.args.images.now in
    let change = c.in-Ok.change in
    let is = c.in-Ok.ensures.change.1 in
    let apart = if_planned (λ (x : Change). AreApart x.images) c.plan-planned.result change is
    (c.plan-planned.ensures.apart d sh.sound sh.next_is sh.sets) in
    let p = planned d images c.args.next _ change sh
    (if_planned (λ (x : Change). FitsDesk d x) c.plan-planned.result change is (c.plan-planned.ensures.fits d sh))
    (if_planned (λ (x : Change). CoverImages images x.images) c.plan-planned.result change is c.plan-planned.ensures.covers)
    (if_planned (λ (x : Change). BringNone d images x.images) c.plan-planned.result change is (c.plan-planned.ensures.brings d sh))
    (if_planned (λ (x : Change). c.args.next ≤ x.next) c.plan-planned.result change is c.plan-planned.ensures.later) in
    decides_planned c.args.from.now names d c.args.command.now change decision
    (c.in-Ok.ensures.right names d c.args.from.now c.args.command.now free (c.plan-planned.ensures.right d sh head)).0
    (made d apart p))
    c.decide_change.ensures.made

pub returns-in-Err-Refused-clause-decided : goal.returns-in-Err-Refused-clause-decided
returns-in-Err-Refused-clause-decided c = λ d names sh head free.
    let plans = rw c.in-Err-Refused.field-0-is at c.in-Err-Refused.ensures.right in
    decides_refused c.args.from.now names d c.args.command.now c.in-Err-Refused.refusal c.refusal_meant.result _
    (plans names d c.args.from.now c.args.command.now free (c.plan-planned.ensures.right d sh head))
    (c.refusal_meant.ensures ∙ ap refusal_meant c.in-Err-Refused.refusal-is) c.without_change.ensures.outcome
    c.without_change.ensures.change
