use Rattle.std.proofs.Common.{refl}
use Rattle.message_plans.proofs.PlanInputLemmas.{set-with, member-with, answers-head, answers-none, asks_where}
use Rattle.message_plans.proofs.plan_inputs.open_head_for.Goals as goal

pub open_head-requires-clause-member : goal.open_head-requires-clause-member
open_head-requires-clause-member g c =
    member-with c.args.images.now c.in-Archive.number c.in-Some.image.now c.in-Some.ensures

pub open_head-requires-clause-set : goal.open_head-requires-clause-set
open_head-requires-clause-set g c k h =
    set-with (g.S.Records.desk c.args.store.now) c.args.images.now c.in-Archive.number c.in-Some.image.now (c.requires.shown k h).sets c.in-Some.ensures

pub returns-in-Some-clause-answer : goal.returns-in-Some-clause-answer
returns-in-Some-clause-answer g c =
    asks_where c.open_head.ensures.answer
    (λ k h p. answers-head _ _ c.args.command.now c.in-Archive.number c.args.images.now c.in-Some.image.now c.open_head.result
    c.in-Archive.is (c.requires.shown k h) c.in-Some.ensures p)

pub returns-in-None-clause-answer : goal.returns-in-None-clause-answer
returns-in-None-clause-answer g c = record {
  holds = record {
    honest = λ w. w;
    kept = λ u w. u;
    fact = λ u w. (
      answers-none (g.S.Records.desk c.args.store.now) c.args.command.now c.in-Archive.number c.args.images.now c.in-Archive.is
          (c.requires.shown u w) c.in-None.ensures,
      refl,
    );
  };
  was_kept = λ u w. u;
  left = λ w a b u. u;
}
