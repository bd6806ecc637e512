use Rattle.std.proofs.Common.{◌∙◌, sym, ap, subst, refl, Ok, Err}
use Rattle.std.proofs.lemmas.Result.{err_from_is_err_and}
use Rattle.bug_record.specs.Desk.{Desk}
use Rattle.store_contract.proofs.HoldsLemmas.{holds_none, holds_weaker, holds_both, holds_then, holds_where}
use Rattle.store_contract.specs.Store.{IsNext, counted}
use Rattle.message_directives.proofs.ReportLemmas.{words_refused, words_not_counted, report_full, report_done, asks_not, asks_first, some_left}
use Rattle.bug_record.specs.Images.{put}
use Rattle.store_contract.proofs.TriedLemmas.{tried_then, tried_is, applied_tried, asked_tried, none_tried}
use Rattle.message_directives.specs.Reports.{desk_after}
use Rattle.message_directives.proofs.reporting.report.Goals as goal

pub apply-requires-clause-fits : goal.apply-requires-clause-fits
apply-requires-clause-fits g c k h =
    let b = c.in_ok-next.ensures.answer in
    let p = b.holds.fact (b.was_kept k h) h in
    c.in-Some.ensures.fits _ (g.met.S.Records.sound _ k) (sym (p.0 ∙ ap (λ (z : Desk). z.next) (sym p.1)))

pub returns-in_err-severity : goal.returns-in_err-severity
returns-in_err-severity g c =
    let p = err_from_is_err_and c.from_residual.result c.from_residual.ensures.1 in
    rw (p.1, p.2) (record {
      answer =
          holds_none _ _ _ (words_refused c.args.from.now _ _ _ _ _ c.in_err-severity.field-0.0
          c.in_err-severity.ensures.own c.in_err-severity.ensures.value);
      stays = holds_none _ _ _ refl;
      crash =
          holds_none _ _ _ (none_tried g.met.S.Records.either c.args.store.now _ _ _);
      first =
          asks_not g.S.Records.next_gives _ _ c.in_err-severity.field-0.0 _ c.in_err-severity.ensures.value;
      count =
          words_not_counted c.in_err-severity.field-0.0 _ c.in_err-severity.ensures.own;
    })

pub returns-in_err-next : goal.returns-in_err-next
returns-in_err-next g c =
    let p = err_from_is_err_and c.from_residual-in_err-next.result c.from_residual-in_err-next.ensures.1 in
    rw (p.1, p.2) (record {
      answer =
          holds_weaker c.in_err-next.ensures.answer.holds
          (λ same. (c.in_ok-severity.severity, sym c.in_ok-severity.ensures.value, same));
      stays =
          holds_weaker c.in_err-next.ensures.answer.holds (λ h. c.in_err-next.ensures.stays);
      crash =
          asked_tried g.met.S.Records.either c.args.store.now c.next.new.self _ _ _ _ c.next.result
          (IsNext (g.S.Records.desk c.args.store.now)) c.next.ensures.answer;
      first =
          asks_first g.S.Records.next_gives _ _ _ c.in_ok-severity.severity (Err c.in_err-next.field-0.0) _ c.in_ok-severity.ensures.value c.in_err-next.ensures.gives refl;
      count =
          c.in_err-next.ensures.count;
    })

pub returns-then-next-ge-AFTER_LARGEST : goal.returns-then-next-ge-AFTER_LARGEST
returns-then-next-ge-AFTER_LARGEST g c =
    record {
      answer =
          holds_weaker c.in_ok-next.ensures.answer.holds
          (λ p. report_full c.args.from.now _ _ _ _ _ _ c.in_ok-severity.severity c.in_ok-next.next c.in_ok-severity.ensures.value p
          c.if-next-ge-AFTER_LARGEST.true);
      stays =
          holds_weaker c.in_ok-next.ensures.answer.holds (λ h. c.in_ok-next.ensures.stays);
      crash =
          asked_tried g.met.S.Records.either c.args.store.now c.next.new.self _ _ _ _ c.next.result
          (IsNext (g.S.Records.desk c.args.store.now)) c.next.ensures.answer;
      first =
          asks_first g.S.Records.next_gives _ _ _ c.in_ok-severity.severity (Ok c.in_ok-next.next) _ c.in_ok-severity.ensures.value
          c.in_ok-next.ensures.gives (λ many. refl);
      count =
          c.in_ok-next.ensures.count;
    }

pub returns-in_default : goal.returns-in_default
returns-in_default g c =
    record {
      answer =
          holds_weaker c.in_ok-next.ensures.answer.holds
          (λ h. (c.in_ok-severity.severity, sym c.in_ok-severity.ensures.value, h.1));
      stays =
          holds_weaker c.in_ok-next.ensures.answer.holds (λ h. c.in_ok-next.ensures.stays);
      crash =
          asked_tried g.met.S.Records.either c.args.store.now c.next.new.self _ _ _ _ c.next.result
          (IsNext (g.S.Records.desk c.args.store.now)) c.next.ensures.answer;
      first =
          asks_first g.S.Records.next_gives _ _ _ c.in_ok-severity.severity (Ok c.in_ok-next.next) _ c.in_ok-severity.ensures.value
          c.in_ok-next.ensures.gives (some_left c.in_ok-next.next _ c.if-next-ge-AFTER_LARGEST.false);
      count =
          c.in_ok-next.ensures.count;
    }

pub returns-in_err-apply : goal.returns-in_err-apply
returns-in_err-apply g c =
    let p = err_from_is_err_and c.from_residual-in_err-apply.result c.from_residual-in_err-apply.ensures.1 in
    rw (p.1, p.2) (record {
      answer =
          holds_then c.in_ok-next.ensures.answer.holds c.in_err-apply.ensures.answer
          (λ h same. (c.in_ok-severity.severity, sym c.in_ok-severity.ensures.value, same ∙ h.1));
      stays =
          holds_then c.in_ok-next.ensures.answer.holds c.in_err-apply.ensures.stays (λ h same. same ∙ c.in_ok-next.ensures.stays);
      crash =
          let a = c.in_ok-next.ensures.answer in
          let b = c.in_err-apply.ensures.answer in
          holds_where (holds_both a.holds b) (λ u w q.
          let kept = a.holds.kept u (b.honest w) in
          let sound = g.met.S.Records.sound _ kept in
          let same = sym (q.0.0 ∙ ap (λ (z : Desk). z.next) (sym q.0.1)) in
          let done = report_done c.args.from.now _ _ _ _ _ _ (put (g.S.Records.desk c.next.new.self) c.in-Some.change) c.in_ok-severity.severity c.in_ok-next.next
          c.in_ok-severity.ensures.value q.0 c.if-next-ge-AFTER_LARGEST.false
          (c.in-Some.ensures.right _ sound same) in
          tried_is g.S.Records.leaves _ _ _ _ _ _ _ (sym (ap (desk_after (g.S.Records.desk c.args.store.now)) done.0))
          (tried_then g.S.Records.leaves _ _ _ _ _ _ _ _ _ c.in_ok-next.ensures.stays
          (λ alone. subst (λ (z : Desk). g.S.Records.leaves c.next.new.self (z, g.S.Records.keeping c.args.store.now) (z, g.S.Records.keeping c.args.store.now)) (sym q.0.1) (a.left (b.honest w) _ _ alone))
          (applied_tried {T = Unit {0}} g.S.Records.leaves _ _ _ _ _ c.in-Some.change (Err c.in_err-apply.field-0.0) q.1 (c.in_err-apply.ensures.crash.fact kept w))));
      first =
          asks_first g.S.Records.next_gives _ _ _ c.in_ok-severity.severity (Ok c.in_ok-next.next) _ c.in_ok-severity.ensures.value c.in_ok-next.ensures.gives (some_left c.in_ok-next.next _ c.if-next-ge-AFTER_LARGEST.false);
      count =
          c.in_err-apply.ensures.count ∙ ap (counted c.in_err-apply.field-0.0) c.in_ok-next.ensures.count;
    })

pub returns : goal.returns
returns g c =
    record {
      answer =
          let a = c.in_ok-next.ensures.answer.holds in
          let b = c.in_ok-apply.ensures.answer in
          holds_where (holds_both a b) (λ u w p.
          let sound = g.met.S.Records.sound _ (a.kept u (b.honest w)) in
          let same = sym (p.0.0 ∙ ap (λ (z : Desk). z.next) (sym p.0.1)) in
          report_done c.args.from.now _ _ _ _ _ _ _ c.in_ok-severity.severity c.in_ok-next.next c.in_ok-severity.ensures.value p.0
          c.if-next-ge-AFTER_LARGEST.false
          (p.1 ∙ c.in-Some.ensures.right _ sound same));
      stays =
          holds_then c.in_ok-next.ensures.answer.holds c.in_ok-apply.ensures.stays (λ h same. same ∙ c.in_ok-next.ensures.stays);
      crash =
          let a = c.in_ok-next.ensures.answer in
          let b = c.in_ok-apply.ensures.answer in
          holds_where (holds_both a.holds b) (λ u w q.
          let kept = a.holds.kept u (b.honest w) in
          tried_then g.S.Records.leaves _ _ _ _ _ _ _ _ _ c.in_ok-next.ensures.stays
          (λ alone. subst (λ (z : Desk). g.S.Records.leaves c.next.new.self (z, g.S.Records.keeping c.args.store.now) (z, g.S.Records.keeping c.args.store.now)) (sym q.0.1) (a.left (b.honest w) _ _ alone))
          (applied_tried {T = Unit {0}} g.S.Records.leaves _ _ _ _ _ c.in-Some.change (Ok c.in_ok-apply.field-0) q.1 (c.in_ok-apply.ensures.crash.fact kept w)));
      first =
          asks_first g.S.Records.next_gives _ _ _ c.in_ok-severity.severity (Ok c.in_ok-next.next) _ c.in_ok-severity.ensures.value
          c.in_ok-next.ensures.gives (some_left c.in_ok-next.next _ c.if-next-ge-AFTER_LARGEST.false);
      count =
          c.in_ok-apply.ensures.count ∙ c.in_ok-next.ensures.count;
    }
