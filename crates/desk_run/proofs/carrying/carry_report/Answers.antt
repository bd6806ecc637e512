use Rattle.std.proofs.Common.{◌∙◌, sym, subst, ap}
use Rattle.std.specs.Io.KnownBytes.{Appends}
use Rattle.control_lines.specs.declared.fault.ScriptFault.TheVariants.{Write}
use Rattle.store_contract.proofs.HoldsLemmas.{holds_weaker}
use Rattle.desk_run.specs.Script.{DirectiveLine, standing}
use Rattle.desk_text.specs.Answers.{report_answer}
use Rattle.desk_run.proofs.PartLemmas.{reported_carried, reported_whole, reported_refused, reported_fault, fault_count}
use Rattle.desk_run.proofs.PartLemmas.{refused_count, report_count}
use Rattle.desk_run.proofs.WritingLemmas.{unwritten, unwritten_own, unwritten_counted}
use Rattle.store_contract.proofs.HoldsLemmas.{holds_where}
use Rattle.desk_run.proofs.TriedLemmas.{reported_failed}
use Rattle.desk_run.proofs.carrying.carry_report.Goals as goal

pub returns-in-Err-clause-answer : goal.returns-in-Err-clause-answer
returns-in-Err-clause-answer g c =
    let s = standing (g.S.Records.desk c.args.store.now) c.args.run.now.sender c.args.run.now.refused in
    holds_weaker c.report-answer.ensures.answer
    (λ r. unwritten (DirectiveLine c.args.line.now) s _ _ _ _ _ (report_answer c.report-answer.result) c.in-Err.stop
    (reported_carried c.args.line.now _ _ _ _ s _ _ _ c.report-answer.result c.requires c.report-answer.ensures.count r)
    c.in-Err.ensures)

pub returns-in-Ok-answer-clause-answer : goal.returns-in-Ok-answer-clause-answer
returns-in-Ok-answer-clause-answer g c =
    let s = standing (g.S.Records.desk c.args.store.now) c.args.run.now.sender c.args.run.now.refused in
    holds_weaker c.report-answer.ensures.answer
    (λ r.
    let w = reported_whole c.args.line.now _ _ _ _ s _ c.in-Ok-answer.field-0 c.requires
    (rw c.in-Ok-answer.is at r) in (
      w.0,
      subst (Appends (g.W.Write.contents c.args.writer.now) (g.W.Write.contents c.write_report.new.writer))
          (ap report_answer c.in-Ok-answer.is ∙ w.1) c.in-Ok.ensures,
    ))

pub returns-in-Some-clause-answer : goal.returns-in-Some-clause-answer
returns-in-Some-clause-answer g c =
    let s = standing (g.S.Records.desk c.args.store.now) c.args.run.now.sender c.args.run.now.refused in
    let of_store = sym c.store_fault.ensures ∙ c.in-Some.is in
    holds_weaker c.report-answer.ensures.answer
    (λ r.
    let f = reported_fault c.args.line.now _ _ _ _ s _ c.in-Err-answer.fault c.in-Some.fault of_store c.requires
    (rw c.in-Err-answer.is at r) in (
      report_answer c.report-answer.result,
      (f.0, f.1, ap report_answer c.in-Err-answer.is ∙ f.2),
      rw c.in-Err-answer.is at c.report-answer.ensures.count ∙ fault_count c.in-Err-answer.fault c.in-Some.fault _ of_store,
      c.in-Ok.ensures,
    ))

pub returns-in-Some-clause-count : goal.returns-in-Some-clause-count
returns-in-Some-clause-count g c =
    let of_store = sym c.store_fault.ensures ∙ c.in-Some.is in
    rw c.in-Err-answer.is at c.report-answer.ensures.count ∙ fault_count c.in-Err-answer.fault c.in-Some.fault _ of_store

pub returns-in-None-clause-answer : goal.returns-in-None-clause-answer
returns-in-None-clause-answer g c =
    let s = standing (g.S.Records.desk c.args.store.now) c.args.run.now.sender c.args.run.now.refused in
    let not_of_store = sym c.store_fault.ensures ∙ c.in-None.is in
    holds_weaker c.report-answer.ensures.answer
    (λ r.
    let w = reported_refused c.args.line.now _ _ _ _ s _ c.in-Err-answer.fault not_of_store c.requires
    (rw c.in-Err-answer.is at r) in (
      w.0,
      subst (Appends (g.W.Write.contents c.args.writer.now) (g.W.Write.contents c.write_report.new.writer))
          (ap report_answer c.in-Err-answer.is ∙ w.1) c.in-Ok.ensures,
    ))

pub returns-in-None-clause-count : goal.returns-in-None-clause-count
returns-in-None-clause-count g c =
    let not_of_store = sym c.store_fault.ensures ∙ c.in-None.is in
    rw c.in-Err-answer.is at c.report-answer.ensures.count ∙ refused_count c.in-Err-answer.fault _ not_of_store

pub returns-in-Err-clause-own : goal.returns-in-Err-clause-own
returns-in-Err-clause-own g c = unwritten_own _ _ _ c.in-Err.stop c.in-Err.ensures

pub returns-in-Err-clause-count : goal.returns-in-Err-clause-count
returns-in-Err-clause-count g c =
    let n = report_count c.report-answer.result (g.S.Records.faults c.args.store.now) in
    unwritten_counted _ _ _ _ _ c.in-Err.stop (n.0, c.report-answer.ensures.count ∙ n.1) c.in-Err.ensures

pub returns-in-Err-clause-crash : goal.returns-in-Err-clause-crash
returns-in-Err-clause-crash g c =
    let s = standing (g.S.Records.desk c.args.store.now) c.args.run.now.sender c.args.run.now.refused in
    let reported = c.report-answer.ensures.answer in
    (holds_where c.report-answer.ensures.crash
    (λ u w x. reported_failed g.S.Records.leaves _ _ _ c.args.line.now s _ _ _ _ c.report-answer.result _ Write c.requires
    (reported.fact u w) x))

pub returns-in-Some-clause-crash : goal.returns-in-Some-clause-crash
returns-in-Some-clause-crash g c =
    let s = standing (g.S.Records.desk c.args.store.now) c.args.run.now.sender c.args.run.now.refused in
    let reported = c.report-answer.ensures.answer in
    (holds_where c.report-answer.ensures.crash
    (λ u w x. reported_failed g.S.Records.leaves _ _ _ c.args.line.now s _ _ _ _ c.report-answer.result _ Write c.requires
    (reported.fact u w) x))
