use Rattle.std.proofs.Common.{List, ℕ, ◌∙◌, ◌++◌, subst, ap}
use Rattle.desk_text.specs.Texts.{end_text}
use Rattle.message_directives.specs.Transcripts.{transcript, line_of_end, received_text}
use Rattle.desk_run.specs.Writing.{IsWritten}
use Rattle.desk_run.proofs.WritingLemmas.{transcribed}
use Rattle.desk_run.proofs.writing.write_received.Goals as goal

pub returns-in-Ok : goal.returns-in-Ok
unfolding received_text
returns-in-Ok g c =
    let r = c.args.received.now in
    let c0 = g.W.Write.contents c.args.writer.now in
    let c1 = g.W.Write.contents c.write_transcript.new.writer in
    let text = c.as_slice-in-Ok.ensures.value ∙ (c.in-Ok.ensures.text ∙ ap transcript c.as_slice.ensures) in
    transcribed r.outcomes (transcript r.outcomes ++ end_text r.end (line_of_end r.end c.args.lines.now)) c0 c1
    c.write_transcript.result
    (subst (λ (w : List ℕ). IsWritten (transcript r.outcomes ++ end_text r.end w) c0 c1 c.write_transcript.result)
    c.line_of_end-line.ensures
    (subst (λ (w : List ℕ). IsWritten (w ++ end_text r.end c.line_of_end-line.result.now) c0 c1 c.write_transcript.result) text
    c.write_transcript.ensures))
