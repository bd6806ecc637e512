use Rattle.std.proofs.Common.{◌≡◌, ℕ, ◌≤◌, List, [], ◌∷◌, length, subst}
use Rattle.std.proofs.lemmas.Result.{err_from_is_err_and}
use Rattle.control_lines.specs.Lines.{raw_lines}
use Rattle.control_lines.specs.Reading.{IsLineFault}
use Rattle.control_lines.specs.Pieces.{GivesRaw, IsTextFault}
use Rattle.control_lines.specs.declared.fault.ScriptFault.{ScriptFault}
use Rattle.control_lines.specs.declared.fault.ScriptFault.TheVariants.{Read, Write, NotUtf8, LineTooLong, Memory, Store}
use Rattle.control_lines.specs.declared.source.RawLine.{RawLine}
use Rattle.control_lines.proofs.source.piece_of.Goals as goal

-- the fault of a text is that of the line that has it
of_text : (number : ℕ) (fault : ScriptFault) (raw all : List ℕ) (more : List (List ℕ)) → raw_lines all ≡ raw ∷ more
    → length raw ≤ 65536 → IsTextFault number raw fault → IsLineFault number fault all
of_text number (NotUtf8 line) raw all more e short h = (h.0, raw, more, e, short, h.1)
of_text number Memory raw all more e short h = tt
of_text number Read raw all more e short h = tt
of_text number Write raw all more e short h = absurd h
of_text number (LineTooLong line) raw all more e short h = absurd h
of_text number (Store fault) raw all more e short h = absurd h

pub returns-in_err-text_of-in-Line-clause-fault : goal.returns-in_err-text_of-in-Line-clause-fault
returns-in_err-text_of-in-Line-clause-fault c =
    let p = err_from_is_err_and c.from_residual.result c.from_residual.ensures.1 in
    let fault = c.in_err-text_of-in-Line.field-0.0 in
    let told = subst (λ (w : List ℕ). IsTextFault c.args.number w fault) c.deref.ensures.value
    c.in_err-text_of-in-Line.ensures.fault in
    rw (p.1, p.2) (λ all rest g.
    let given = subst (λ (r : RawLine). GivesRaw r all rest) c.in-Line.is g in
    of_text c.args.number fault c.in-Line.bytes.items all (raw_lines rest) given.0 given.1 told)

pub returns-in_err-text_of-in-Last-clause-fault : goal.returns-in_err-text_of-in-Last-clause-fault
returns-in_err-text_of-in-Last-clause-fault c =
    let p = err_from_is_err_and c.from_residual-in_err-text_of-in-Last.result
    c.from_residual-in_err-text_of-in-Last.ensures.1 in
    let fault = c.in_err-text_of-in-Last.field-0.0 in
    let told = subst (λ (w : List ℕ). IsTextFault c.args.number w fault) c.deref-in-Last.ensures.value
    c.in_err-text_of-in-Last.ensures.fault in
    rw (p.1, p.2) (λ all rest g.
    let given = subst (λ (r : RawLine). GivesRaw r all rest) c.in-Last.is g in
    of_text c.args.number fault c.in-Last.bytes.items all [] given.0 given.1 told)
