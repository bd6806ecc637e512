use Rattle.std.proofs.Common.{◌∙◌, map, ap, sym, subst}
use Rattle.std.proofs.lemmas.Result.{err_from_is_err_and}
use Rattle.control_text.specs.Writer.{state_of, State}
use Rattle.control_text.proofs.ReadLemmas.{HasRead, none_read, one_more, one_fails, all_set, all_read, drop_read, drop_none}
use Rattle.control_text.proofs.word_lines.lines_of.Goals as goal

pub loop-place-init : goal.loop-place-init
loop-place-init c =
    let words = map (λ s. s.now) c.args.words.now in
    subst (HasRead words 0) (sym c.new-writer.ensures) (none_read words)

pub loop-place-preserved : goal.loop-place-preserved
loop-place-preserved c =
    let words = map (λ s. s.now) c.args.words.now in
    let rest = drop_read (λ s. s.now) c.args.words.now c.loop-place.place _ c.loop-place-test.true in
    one_more words c.loop-place.place (state_of c.loop-place.writer) (state_of c.read.new.self) _
    c.loop-place.invariant rest c.in_ok-read.ensures.ok

pub returns-in_err-read-clause-err : goal.returns-in_err-read-clause-err
returns-in_err-read-clause-err c =
    let p = err_from_is_err_and c.from_residual.result c.from_residual.ensures.1 in
    let words = map (λ s. s.now) c.args.words.now in
    let rest = drop_read (λ s. s.now) c.args.words.now c.loop-place.place _ c.loop-place-test.true in
    rw (p.1, p.2) (one_fails words c.loop-place.place (state_of c.loop-place.writer) _ c.in_err-read.field-0.0
    c.loop-place.invariant rest c.in_err-read.ensures.err)

pub returns-clause-ok : goal.returns-clause-ok
returns-clause-ok c =
    let words = map (λ s. s.now) c.args.words.now in
    let rest = drop_none (λ s. s.now) c.args.words.now c.loop-place.place c.loop-place-test.false in
    let read = all_read words c.loop-place.place (state_of c.loop-place.writer) c.loop-place.invariant rest in (
      all_set words c.loop-place.place (state_of c.loop-place.writer) c.loop-place.invariant rest,
      ap (λ (s : State). s.lines) c.in_ok-end.ensures ∙ read,
    )
