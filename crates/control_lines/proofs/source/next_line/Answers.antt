use Rattle.std.proofs.Common.{rules, ◌≡◌, ℕ, ◌≤◌, List, Some, length, take, ap, subst}
use Rattle.std.specs.Str.{IsUtf8}
use Rattle.std.proofs.lemmas.Result.{err_from_is_err_and}
use Rattle.control_lines.specs.Buffered.{Buffered}
use Rattle.control_lines.specs.Lines.{without_return}
use Rattle.control_lines.specs.Pieces.{IsFirstFeed, IsTextFault}
use Rattle.control_lines.proofs.ReadingLemmas.{line_at_hand, fault_at_hand, piece_left, fault_left, on_ok}
use Rattle.control_lines.proofs.source.next_line.Goals as goal

pub returns-in-Some-clause-piece : goal.returns-in-Some-clause-piece
returns-in-Some-clause-piece g c =
    let first = subst (λ (w : List ℕ). IsFirstFeed w (Some c.in-Some.end)) c.unread.ensures.bytes c.in-Some.ensures in
    let short = subst (λ (w : List ℕ). length w ≤ 8192) c.unread.ensures.bytes c.unread.ensures.short in
    let text = subst (λ (w : List ℕ). IsUtf8 (take c.in-Some.end w)
    × (c.in_ok-text.field-0 ≡ without_return (take c.in-Some.end w))) c.unread-in-Some.ensures.bytes
    c.in_ok-text.ensures.text in
    line_at_hand c.in_ok-text.field-0 c.args.source.now.unread c.advance.new.self.unread c.in-Some.end first short
    (ap (λ (b : Buffered). b.unread) c.advance.ensures) text.0 text.1

pub returns-in_err-text-clause-fault : goal.returns-in_err-text-clause-fault
returns-in_err-text-clause-fault g c =
    let p = err_from_is_err_and c.from_residual.result c.from_residual.ensures.1 in
    let first = subst (λ (w : List ℕ). IsFirstFeed w (Some c.in-Some.end)) c.unread.ensures.bytes c.in-Some.ensures in
    let short = subst (λ (w : List ℕ). length w ≤ 8192) c.unread.ensures.bytes c.unread.ensures.short in
    let h = subst (λ (w : List ℕ). IsTextFault c.args.number (take c.in-Some.end w) c.in_err-text.field-0.0)
    c.unread-in-Some.ensures.bytes c.in_err-text.ensures.fault in
    rw (p.1, p.2) (fault_at_hand c.args.number c.in_err-text.field-0.0 c.args.source.now.unread c.in-Some.end first short h)

pub returns-in_err-text-clause-piece : goal.returns-in_err-text-clause-piece
returns-in_err-text-clause-piece g c = search rules

pub returns-in_err-text-clause-outside : goal.returns-in_err-text-clause-outside
returns-in_err-text-clause-outside g c = search rules

pub returns-in_err-text-clause-begun : goal.returns-in_err-text-clause-begun
returns-in_err-text-clause-begun g c = search rules

pub returns-in_err-text-clause-emptied : goal.returns-in_err-text-clause-emptied
returns-in_err-text-clause-emptied g c = search rules

pub returns-in_err-text-clause-reads : goal.returns-in_err-text-clause-reads
returns-in_err-text-clause-reads g c = search rules

pub returns-in_err-text-clause-fewer : goal.returns-in_err-text-clause-fewer
returns-in_err-text-clause-fewer g c = search rules

pub returns-in_err-text-clause-unasked : goal.returns-in_err-text-clause-unasked
returns-in_err-text-clause-unasked g c = search rules

pub returns-in_err-text-clause-spent : goal.returns-in_err-text-clause-spent
returns-in_err-text-clause-spent g c = search rules

pub returns-clause-piece : goal.returns-clause-piece
returns-clause-piece g c = piece_left c.args.source.now.unread c.gather.new.source.unread c.in_ok-raw.raw c.piece_of.result c.in_ok-raw.ensures.raw c.piece_of.ensures.piece

pub returns-clause-fault : goal.returns-clause-fault
returns-clause-fault g c = fault_left c.args.number c.args.source.now.unread c.gather.new.source.unread c.in_ok-raw.raw c.piece_of.result c.in_ok-raw.ensures.raw c.piece_of.ensures.fault

pub returns-clause-outside : goal.returns-clause-outside
returns-clause-outside g c = c.piece_of.ensures.outside

pub returns-clause-begun : goal.returns-clause-begun
returns-clause-begun g c = λ e. absurd (c.piece_of.ensures.whole e)

pub returns-clause-emptied : goal.returns-clause-emptied
returns-clause-emptied g c = λ e. absurd (c.piece_of.ensures.whole e)

pub returns-clause-reads : goal.returns-clause-reads
returns-clause-reads g c = c.in_ok-raw.ensures.reads

pub returns-clause-fewer : goal.returns-clause-fewer
returns-clause-fewer g c = on_ok c.piece_of.result c.in_ok-raw.ensures.fewer

pub returns-clause-unasked : goal.returns-clause-unasked
returns-clause-unasked g c = c.in_ok-raw.ensures.unasked

pub returns-in_err-raw-clause-fault : goal.returns-in_err-raw-clause-fault
returns-in_err-raw-clause-fault g c =
    let p = err_from_is_err_and c.from_residual-in_err-raw.result c.from_residual-in_err-raw.ensures.1 in
    rw (p.1, p.2) c.in_err-raw.ensures.fault

pub returns-in_err-raw-clause-outside : goal.returns-in_err-raw-clause-outside
returns-in_err-raw-clause-outside g c =
    let p = err_from_is_err_and c.from_residual-in_err-raw.result c.from_residual-in_err-raw.ensures.1 in
    rw (p.1, p.2) c.in_err-raw.ensures.outside

pub returns-in_err-raw-clause-begun : goal.returns-in_err-raw-clause-begun
returns-in_err-raw-clause-begun g c = search rules

pub returns-in_err-raw-clause-emptied : goal.returns-in_err-raw-clause-emptied
returns-in_err-raw-clause-emptied g c = search rules

pub returns-in_err-raw-clause-reads : goal.returns-in_err-raw-clause-reads
returns-in_err-raw-clause-reads g c = c.in_err-raw.ensures.reads

pub returns-in_err-raw-clause-unasked : goal.returns-in_err-raw-clause-unasked
returns-in_err-raw-clause-unasked g c = c.in_err-raw.ensures.unasked

pub returns-in_err-raw-clause-spent : goal.returns-in_err-raw-clause-spent
returns-in_err-raw-clause-spent g c = search rules
