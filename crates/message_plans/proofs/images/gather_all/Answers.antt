use Rattle.std.proofs.Common.{◌∙◌}
use Rattle.store_contract.proofs.HoldsLemmas.{asks_then}
use Rattle.message_plans.proofs.GatherLemmas.{gather-more}
use Rattle.message_plans.proofs.images.gather_all.Goals as goal

pub loop-number-preserved : goal.loop-number-preserved
loop-number-preserved g c = record {
  apart = c.in_ok-gather.ensures.apart;
  bugs = c.in_ok-gather.ensures.bugs;
  stays = c.in_ok-gather.ensures.stays ∙ c.loop-number.invariant.stays;
  faults = c.in_ok-gather.ensures.count ∙ c.loop-number.invariant.faults;
  gathered = asks_then c.loop-number.invariant.gathered c.in_ok-gather.ensures.answer
      (λ p q. (
        gather-more (g.S.Records.desk c.args.store.now) _ c.args.numbers.now c.loop-number.number-index c.args.images.now _
            _ c.loop-number-test.true p.1 p.0 q.0,
        q.1 ∙ p.1,
      ));
}
