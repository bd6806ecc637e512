use Rattle.std.proofs.Common.{List, ℕ, ◌∙◌, sym, subst, ap}
use Rattle.desk_text.specs.Answers.{report_answer}
use Rattle.desk_run.specs.Writing.{IsWritten}
use Rattle.desk_run.proofs.WritingLemmas.{failed_text, refused_text}
use Rattle.desk_run.proofs.writing.write_report.Goals as goal

pub returns-in-Some : goal.returns-in-Some
returns-in-Some g c =
    let text = failed_text c.in-Err.refusal c.in-Some.fault (sym c.store_fault.ensures ∙ c.in-Some.is) in
    subst (λ (w : List ℕ). IsWritten w (g.W.Write.contents c.args.writer.now)
    (g.W.Write.contents c.write_fault.new.writer) c.write_fault.result) (sym (ap report_answer c.in-Err.is ∙ text)) c.write_fault.ensures

pub returns-in-None : goal.returns-in-None
returns-in-None g c =
    let text = refused_text c.in-Err.refusal (sym c.store_fault.ensures ∙ c.in-None.is) in
    subst (λ (w : List ℕ). IsWritten w (g.W.Write.contents c.args.writer.now)
    (g.W.Write.contents c.write_refusal.new.writer) c.write_refusal.result) (sym (ap report_answer c.in-Err.is ∙ text))
    (rw c.report_refusal.ensures at c.write_refusal.ensures)
