use Rattle.std.proofs.Common.{◌∙◌, sym, ap, subst}
use Rattle.std.proofs.lemmas.Result.{err_from_is_err_and}
use Rattle.store_contract.specs.Store.{IsImageOf}
use Rattle.store_contract.proofs.HoldsLemmas.{holds_weaker}
use Rattle.store_contract.proofs.TriedLemmas.{asked_tried}
use Rattle.message_directives.specs.Questions.{Told}
use Rattle.message_directives.proofs.QuestionLemmas.{page_of_none}
use Rattle.message_directives.proofs.pages.page_of.Goals as goal

pub returns-in_err-image : goal.returns-in_err-image
returns-in_err-image g c =
    let p = err_from_is_err_and c.from_residual.result c.from_residual.ensures.1 in
    rw (p.1, p.2) (record {
      answer = holds_weaker c.in_err-image.ensures.answer.holds (λ same. (tt, same));
      stays = c.in_err-image.ensures.stays;
      crash =
          asked_tried g.met.S.Records.either c.args.store.now c.set_of.new.self _ _ _ _ c.set_of.result
          (IsImageOf (g.S.Records.desk c.args.store.now) c.args.number) c.set_of.ensures.answer;
      count = c.in_err-image.ensures.count;
    })

pub returns-in_err-text : goal.returns-in_err-text
returns-in_err-text g c =
    let p = err_from_is_err_and c.from_residual-in_err-text.result c.from_residual-in_err-text.ensures.1 in
    rw (p.1, p.2) (record {
      answer = holds_weaker c.in_ok-image.ensures.answer.holds (λ h. h.1);
      stays = c.in_ok-image.ensures.stays;
      crash =
          asked_tried g.met.S.Records.either c.args.store.now c.set_of.new.self _ _ _ _ c.set_of.result
          (IsImageOf (g.S.Records.desk c.args.store.now) c.args.number) c.set_of.ensures.answer;
      count = c.in_ok-image.ensures.count;
    })

pub returns-in_default : goal.returns-in_default
returns-in_default g c =
    record {
      answer =
          holds_weaker c.in_ok-image.ensures.answer.holds
          (λ h.
          let none = subst (IsImageOf (g.S.Records.desk c.args.store.now) c.args.number) c.in_default.is h.0 in
          let p = page_of_none _ _ none in (
            c.in_ok-text.ensures ∙ sym (ap (λ (x : Told). x.text) p),
            sym (ap (λ (x : Told). x.refused) p),
            h.1,
          ));
      stays = c.in_ok-image.ensures.stays;
      crash =
          asked_tried g.met.S.Records.either c.args.store.now c.set_of.new.self _ _ _ _ c.set_of.result
          (IsImageOf (g.S.Records.desk c.args.store.now) c.args.number) c.set_of.ensures.answer;
      count = c.in_ok-image.ensures.count;
    }
