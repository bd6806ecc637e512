use Rattle.std.proofs.Common.{◌≡◌, Err, take, ◌∙◌, rules}
use Rattle.sqlite.specs.Held.{state}
use Rattle.table_schema.proofs.ReadSteps.{known_then, known_stop, known_weaker}
use Rattle.table_writes.specs.Plans.{IsPlanOf, ArePlans}
use Rattle.table_writes.proofs.PlanLemmas.{grown}
use Rattle.table_writes.proofs.change.plan_images.Goals as goal

pub returns-in_err-plan-clause-reads : goal.returns-in_err-plan-clause-reads
returns-in_err-plan-clause-reads g c =
    let is : c.from_residual.result ≡ Err c.in_err-plan.field-0.0 = search rules in
    rw is (known_stop (state g.S.Store c.args.tx.now.conn.now) (state g.S.Store c.loop-image.tx.conn.now) (state g.S.Store c.plan_image.new.tx.conn.now) c.in_err-plan.field-0.0
    (λ k. ArePlans k c.args.family.now (take c.loop-image.image-index c.args.images.now) c.loop-image.plans.items) (λ k plan. IsPlanOf k c.args.family.now c.image-item.result plan) _ c.loop-image.invariant.known c.in_err-plan.ensures.reads)

pub loop-image-preserved : goal.loop-image-preserved
loop-image-preserved g c =
    record {
      same = c.plan_image.ensures.same_reference ∙ c.loop-image.invariant.same;
      known = known_weaker (state g.S.Store c.args.tx.now.conn.now) (state g.S.Store c.plan_image.new.tx.conn.now) _ _
          (λ k p. grown k c.args.family.now c.args.images.now c.loop-image.image-index c.image-item.result c.loop-image.plans.items c.in_ok-plan.plan _ c.loop-image-test.true c.image-item.is (search rules) p.0 p.1)
          (known_then (state g.S.Store c.args.tx.now.conn.now) (state g.S.Store c.loop-image.tx.conn.now) (state g.S.Store c.plan_image.new.tx.conn.now) c.in_ok-plan.plan
          (λ k. ArePlans k c.args.family.now (take c.loop-image.image-index c.args.images.now) c.loop-image.plans.items) (λ k plan. IsPlanOf k c.args.family.now c.image-item.result plan) c.loop-image.invariant.known c.in_ok-plan.ensures.reads);
    }
