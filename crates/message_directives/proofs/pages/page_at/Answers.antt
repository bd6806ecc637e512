use Rattle.std.proofs.Common.{◌∙◌}
use Rattle.store_contract.specs.Store.{AreWaitingOn}
use Rattle.store_contract.proofs.HoldsLemmas.{holds_weaker}
use Rattle.store_contract.proofs.TriedLemmas.{asked_tried}
use Rattle.message_directives.proofs.QuestionLemmas.{not_counted, page_answered}
use Rattle.message_directives.proofs.pages.page_at.Goals as goal

pub returns-in-Ok : goal.returns-in-Ok
returns-in-Ok g c =
    record {
      answer =
          holds_weaker c.in-Ok.ensures.answer.holds
          (λ w h. page_answered _ _ _ _ _ _ c.text_of.result h w c.text_of.ensures.text c.text_of.ensures.answered
          c.text_of.ensures.memory);
      stays = c.in-Ok.ensures.stays;
      crash =
          asked_tried g.met.S.Records.either c.args.store.now c.waiting_on.new.self _ _ _ _ c.waiting_on.result
          (AreWaitingOn (g.S.Records.desk c.args.store.now) c.args.number) c.waiting_on.ensures.answer;
      count = c.in-Ok.ensures.count ∙ not_counted c.text_of.result _ c.text_of.ensures.memory;
    }

pub returns-in-Err : goal.returns-in-Err
returns-in-Err g c =
    record {
      answer = holds_weaker c.in-Err.ensures.answer.holds (λ same h. (tt, same));
      stays = c.in-Err.ensures.stays;
      crash =
          asked_tried g.met.S.Records.either c.args.store.now c.waiting_on.new.self _ _ _ _ c.waiting_on.result
          (AreWaitingOn (g.S.Records.desk c.args.store.now) c.args.number) c.waiting_on.ensures.answer;
      count = c.in-Err.ensures.count;
    }
