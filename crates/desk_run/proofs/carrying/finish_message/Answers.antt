use Rattle.std.proofs.Common.{ℕ, List, Err, ◌∙◌, sym, subst, ap}
use Rattle.std.specs.Prelude.{◌||◌}
use Rattle.std.specs.Io.KnownBytes.{Appends}
use Rattle.control_lines.specs.declared.fault.ScriptFault.TheVariants.{Write}
use Rattle.store_contract.proofs.HoldsLemmas.{holds_weaker}
use Rattle.message_directives.specs.Transcripts.{received_text}
use Rattle.desk_run.specs.Script.{standing}
use Rattle.desk_run.specs.Writing.{IsTranscribed}
use Rattle.desk_run.proofs.PartLemmas.{received_fault, received_whole, end_count, message_count}
use Rattle.desk_run.proofs.WritingLemmas.{received_unwritten, transcribed_own, transcribed_counted}
use Rattle.store_contract.proofs.HoldsLemmas.{holds_where}
use Rattle.desk_run.proofs.TriedLemmas.{received_failed}
use Rattle.desk_run.proofs.carrying.finish_message.Goals as goal

pub returns-in-Err-clause-answer : goal.returns-in-Err-clause-answer
returns-in-Err-clause-answer g c =
    let s = standing (g.S.Records.desk c.args.store.now) c.args.run.now.sender c.args.run.now.refused in
    let line = rw c.as_slice-lines.ensures.value at c.receive_lines-received.ensures.line in
    holds_weaker c.receive_lines-received.ensures.answer
    (λ r. received_unwritten c.args.run.now.gathered.items s c.receive_lines-received.result.outcomes
    c.receive_lines-received.result.end _ _ _ _ _ c.in-Err.stop c.receive_lines-received.ensures.count
    (rw (c.as_str.ensures, c.as_slice-lines.ensures.value) at r) line
    (subst (λ (ls : List (List ℕ)). IsTranscribed c.receive_lines-received.result.outcomes
    (received_text c.receive_lines-received.result.outcomes c.receive_lines-received.result.end ls)
    (g.W.Write.contents c.args.writer.now) (g.W.Write.contents c.write_received.new.writer) (Err c.in-Err.stop))
    c.as_slice-lines.ensures.value c.in-Err.ensures))

pub returns-in-Some-clause-answer : goal.returns-in-Some-clause-answer
returns-in-Some-clause-answer g c =
    let s = standing (g.S.Records.desk c.args.store.now) c.args.run.now.sender c.args.run.now.refused in
    let line = rw c.as_slice-lines.ensures.value at c.receive_lines-received.ensures.line in
    holds_weaker c.receive_lines-received.ensures.answer
    (λ r. (
      _,
      received_fault c.args.run.now.gathered.items s c.receive_lines-received.result.outcomes c.receive_lines-received.result.end
          _ c.in-Some.fault (sym c.in-Some.ensures) (rw (c.as_str.ensures, c.as_slice-lines.ensures.value) at r) line,
      c.receive_lines-received.ensures.count
          ∙ end_count c.receive_lines-received.result.end c.in-Some.fault _ (sym c.in-Some.ensures),
      subst (Appends (g.W.Write.contents c.args.writer.now) (g.W.Write.contents c.write_received.new.writer))
          (ap (received_text c.receive_lines-received.result.outcomes c.receive_lines-received.result.end)
          c.as_slice-lines.ensures.value) c.in-Ok.ensures,
    ))

pub returns-clause-answer : goal.returns-clause-answer
returns-clause-answer g c =
    let s = standing (g.S.Records.desk c.args.store.now) c.args.run.now.sender c.args.run.now.refused in
    let none = sym c.fault_of_end.ensures ∙ c.in_default.is in
    let either = c.either-run.ensures ∙ ap (λ b. c.args.run.now.refused || b) c.refuses.ensures in
    holds_weaker c.receive_lines-received.ensures.answer
    (λ r.
    let w = received_whole c.args.run.now.gathered.items s c.receive_lines-received.result.outcomes
    c.receive_lines-received.result.end _ c.either-run.result none either
    (rw (c.as_str.ensures, c.as_slice-lines.ensures.value) at r) in (
      w.0,
      subst (Appends (g.W.Write.contents c.args.writer.now) (g.W.Write.contents c.write_received.new.writer))
          (ap (received_text c.receive_lines-received.result.outcomes c.receive_lines-received.result.end)
          c.as_slice-lines.ensures.value ∙ w.1) c.in-Ok.ensures,
    ))

pub returns-in-Err-clause-own : goal.returns-in-Err-clause-own
returns-in-Err-clause-own g c = transcribed_own _ _ _ _ c.in-Err.stop c.in-Err.ensures

pub returns-in-Err-clause-count : goal.returns-in-Err-clause-count
returns-in-Err-clause-count g c =
    let n = message_count c.receive_lines-received.result.end (g.S.Records.faults c.args.store.now) in
    transcribed_counted _ _ _ _ _ _ c.in-Err.stop (n.0, c.receive_lines-received.ensures.count ∙ n.1) c.in-Err.ensures

pub returns-in-Err-clause-crash : goal.returns-in-Err-clause-crash
returns-in-Err-clause-crash g c =
    let s = standing (g.S.Records.desk c.args.store.now) c.args.run.now.sender c.args.run.now.refused in
    let received = c.receive_lines-received.ensures.answer in
    holds_where c.receive_lines-received.ensures.crash
    (λ u w x. received_failed g.S.Records.leaves _ _ _ c.args.run.now.gathered.items s c.receive_lines-received.result.outcomes
    c.receive_lines-received.result.end _ Write (rw (c.as_str.ensures, c.as_slice-lines.ensures.value) at (received.fact u w))
    (rw (c.as_str.ensures, c.as_slice-lines.ensures.value) at x))

pub returns-in-Some-clause-crash : goal.returns-in-Some-clause-crash
returns-in-Some-clause-crash g c =
    let s = standing (g.S.Records.desk c.args.store.now) c.args.run.now.sender c.args.run.now.refused in
    let received = c.receive_lines-received.ensures.answer in
    holds_where c.receive_lines-received.ensures.crash
    (λ u w x. received_failed g.S.Records.leaves _ _ _ c.args.run.now.gathered.items s c.receive_lines-received.result.outcomes
    c.receive_lines-received.result.end _ Write (rw (c.as_str.ensures, c.as_slice-lines.ensures.value) at (received.fact u w))
    (rw (c.as_str.ensures, c.as_slice-lines.ensures.value) at x))
