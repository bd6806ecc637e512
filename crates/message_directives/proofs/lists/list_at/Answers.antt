use Rattle.std.proofs.Common.{rules}
use Rattle.std.proofs.lemmas.Result.{err_from_is_err_and}
use Rattle.store_contract.specs.Store.{AreListed}
use Rattle.store_contract.proofs.HoldsLemmas.{holds_weaker}
use Rattle.store_contract.proofs.TriedLemmas.{asked_tried}
use Rattle.message_directives.proofs.lists.list_at.Goals as goal

pub returns-in_err-rows : goal.returns-in_err-rows
returns-in_err-rows g c =
    let p = err_from_is_err_and c.from_residual.result c.from_residual.ensures.1 in
    rw (p.1, p.2) (record {
      answer = holds_weaker c.in_err-rows.ensures.answer.holds (λ same. (tt, same));
      stays = c.in_err-rows.ensures.stays;
      crash =
          asked_tried g.met.S.Records.either c.args.store.now c.listed.new.self _ _ _ _ c.listed.result
          (AreListed (g.S.Records.desk c.args.store.now) c.args.package.now c.args.node.now) c.listed.ensures.answer;
      count = c.in_err-rows.ensures.count;
    })

pub returns-in_err-list_text : goal.returns-in_err-list_text
returns-in_err-list_text g c =
    let p = err_from_is_err_and c.from_residual-in_err-list_text.result c.from_residual-in_err-list_text.ensures.1 in
    rw (p.1, p.2) (record {
      answer = holds_weaker c.in_ok-rows.ensures.answer.holds (λ h. h.1);
      stays = c.in_ok-rows.ensures.stays;
      crash =
          asked_tried g.met.S.Records.either c.args.store.now c.listed.new.self _ _ _ _ c.listed.result
          (AreListed (g.S.Records.desk c.args.store.now) c.args.package.now c.args.node.now) c.listed.ensures.answer;
      count = c.in_ok-rows.ensures.count;
    })

pub returns : goal.returns
returns g c =
    record {
      answer = search rules;
      stays = c.in_ok-rows.ensures.stays;
      crash =
          asked_tried g.met.S.Records.either c.args.store.now c.listed.new.self _ _ _ _ c.listed.result
          (AreListed (g.S.Records.desk c.args.store.now) c.args.package.now c.args.node.now) c.listed.ensures.answer;
      count = c.in_ok-rows.ensures.count;
    }
