use Rattle.std.proofs.Common.{map, Some, None}
use Rattle.std.specs.String.{string_bytes}
use Rattle.std.proofs.lemmas.Result.{err_from_is_err_and}
use Rattle.control_text.specs.WordLines.{lines}
use Rattle.control_text.proofs.FaultLemmas.{bad_at, fault-bad, fault-unset, fault-none_there, fault-none, empty-map, some-map}
use Rattle.control_text.proofs.word_lines.words_to_lines.Goals as goal

pub returns-in-Some-clause-err : goal.returns-in-Some-clause-err
returns-in-Some-clause-err c =
    let words = map (λ s. s.now) c.args.words.now in
    fault-bad words c.in-Some.place (bad_at (λ s. s.now) c.args.words.now (Some c.in-Some.place) c.in-Some.ensures)

pub returns-in_err-lines-clause-err : goal.returns-in_err-lines-clause-err
returns-in_err-lines-clause-err c =
    let p = err_from_is_err_and c.from_residual.result c.from_residual.ensures.1 in
    let words = map (λ s. s.now) c.args.words.now in
    rw (p.1, p.2) (fault-unset words c.in_err-lines.field-0.0
    (bad_at (λ s. s.now) c.args.words.now None c.in-None.ensures) c.in_err-lines.ensures.err)

pub returns-then-is_empty-clause-err : goal.returns-then-is_empty-clause-err
returns-then-is_empty-clause-err c =
    let words = map (λ s. s.now) c.args.words.now in
    fault-none_there words (bad_at (λ s. s.now) c.args.words.now None c.in-None.ensures)
    (empty-map string_bytes c.in_ok-lines.lines.items (lines words) c.in_ok-lines.ensures.ok.1 _ c.in_ok-lines.lines.ok.0 c.if-is_empty.ensures)

pub returns-clause-ok : goal.returns-clause-ok
returns-clause-ok c =
    let words = map (λ s. s.now) c.args.words.now in (
      fault-none words (bad_at (λ s. s.now) c.args.words.now None c.in-None.ensures) c.in_ok-lines.ensures.ok.0
          (some-map string_bytes c.in_ok-lines.lines.items (lines words) c.in_ok-lines.ensures.ok.1 _ c.in_ok-lines.lines.ok.0 c.if-is_empty.ensures),
      c.in_ok-lines.ensures.ok.1,
    )
