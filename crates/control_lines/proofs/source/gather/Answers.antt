use Rattle.std.proofs.Common.{rules, ◌≡◌, ℕ, ◌<◌, List, Some, length, drop, ap, ◌∙◌, subst, arith}
use Rattle.std.proofs.lemmas.Bool.{false≢true}
use Rattle.std.proofs.lemmas.Grind.{common_steps}
use Rattle.std.proofs.lemmas.List.{drop-drop}
use Rattle.std.proofs.lemmas.Result.{err_from_is_err_and}
use Rattle.control_lines.specs.Buffered.{Buffered}
use Rattle.control_lines.specs.Pieces.{IsFirstFeed}
use Rattle.control_lines.proofs.ReadingLemmas.{line_ended, last_ended, all_taken, all_free, rest_too_long, piece_too_long, goes_on}
use Rattle.control_lines.proofs.source.gather.Goals as goal

pub returns-in_err-take_bytes-clause-fault : goal.returns-in_err-take_bytes-clause-fault
returns-in_err-take_bytes-clause-fault g c =
    let p = err_from_is_err_and c.from_residual.result c.from_residual.ensures.1 in
    rw (p.1, p.2) (rest_too_long c.args.number c.in_err-take_bytes.field-0.0 c.args.source.now.unread c.loop-line.line.items
    c.loop-line.source.unread
    (length c.unread-count.result.now) (ap length c.unread-count.ensures.bytes) c.loop-line.invariant.no_feed
    c.loop-line.invariant.no_end
    c.in_err-take_bytes.ensures.fault c.loop-line.invariant.read)

pub returns-in_err-take_bytes-clause-spent : goal.returns-in_err-take_bytes-clause-spent
returns-in_err-take_bytes-clause-spent g c none zero =
    let same = ap (λ (b : Buffered). b.unread) (c.loop-line.invariant.spent none zero).0 in
    absurd (false≢true (c.in_err-take_bytes.ensures.kept (ap length (c.unread-count.ensures.bytes ∙ (same ∙ none)))))

pub returns-then-is_empty-clause-raw : goal.returns-then-is_empty-clause-raw
returns-then-is_empty-clause-raw g c =
    let some : 0 < length c.take_bytes.new.line.items = grind (arith, common_steps) in
    let none : length c.refill.new.source.unread ≡ 0 = grind (arith, common_steps) in
    let all = ap length c.unread-count.ensures.bytes in
    let is = c.in_ok-take_bytes.ensures.line in
    last_ended c.args.source.now.unread c.take_bytes.new.line.items c.refill.new.source.unread
    (all_free c.loop-line.line.items c.loop-line.source.unread c.take_bytes.new.line.items (length c.unread-count.result.now) all
    is c.loop-line.invariant.no_feed c.loop-line.invariant.no_end)
    some c.in_ok-take_bytes.ensures.short none
    (all_taken c.args.source.now.unread c.loop-line.line.items c.loop-line.source.unread c.take_bytes.new.line.items
    (length c.unread-count.result.now) all is c.loop-line.invariant.read)
    c.in_ok-refill.ensures.read

pub returns-in_err-take_bytes-2-clause-fault : goal.returns-in_err-take_bytes-2-clause-fault
returns-in_err-take_bytes-2-clause-fault g c =
    let p = err_from_is_err_and c.from_residual-in_err-take_bytes-2.result c.from_residual-in_err-take_bytes-2.ensures.1 in
    let first = subst (λ (w : List ℕ). IsFirstFeed w (Some c.in-Some.end)) c.unread-in-loop-line.ensures.bytes c.in-Some.ensures
    in
    let all = ap length c.unread-count.ensures.bytes in
    let is = c.in_ok-take_bytes.ensures.line in
    rw (p.1, p.2) (piece_too_long c.args.number c.in_err-take_bytes-2.field-0.0 c.args.source.now.unread
    c.take_bytes.new.line.items c.refill.new.source.unread c.in-Some.end
    (all_free c.loop-line.line.items c.loop-line.source.unread c.take_bytes.new.line.items (length c.unread-count.result.now) all
    is c.loop-line.invariant.no_feed c.loop-line.invariant.no_end)
    first c.in_err-take_bytes-2.ensures.fault
    (all_taken c.args.source.now.unread c.loop-line.line.items c.loop-line.source.unread c.take_bytes.new.line.items
    (length c.unread-count.result.now) all is c.loop-line.invariant.read)
    c.in_ok-refill.ensures.read)

pub returns-in-Some-clause-raw : goal.returns-in-Some-clause-raw
returns-in-Some-clause-raw g c =
    let first = subst (λ (w : List ℕ). IsFirstFeed w (Some c.in-Some.end)) c.unread-in-loop-line.ensures.bytes c.in-Some.ensures
    in
    let all = ap length c.unread-count.ensures.bytes in
    let is = c.in_ok-take_bytes.ensures.line in
    let after = ap (λ (b : Buffered). b.unread) c.advance.ensures
    ∙ (ap (λ (b : Buffered). drop 1 b.unread) c.in_ok-take_bytes-2.ensures.taken
    ∙ drop-drop 1 c.in-Some.end c.refill.new.source.unread) in
    line_ended c.args.source.now.unread c.take_bytes.new.line.items c.refill.new.source.unread c.take_bytes-in-Some.new.line.items
    c.advance.new.self.unread c.in-Some.end
    (all_free c.loop-line.line.items c.loop-line.source.unread c.take_bytes.new.line.items (length c.unread-count.result.now) all
    is c.loop-line.invariant.no_feed c.loop-line.invariant.no_end)
    first c.in_ok-take_bytes-2.ensures.line after c.in_ok-take_bytes-2.ensures.short
    (all_taken c.args.source.now.unread c.loop-line.line.items c.loop-line.source.unread c.take_bytes.new.line.items
    (length c.unread-count.result.now) all is c.loop-line.invariant.read)
    c.in_ok-refill.ensures.read

pub returns-in_err-take_bytes-clause-raw : goal.returns-in_err-take_bytes-clause-raw
returns-in_err-take_bytes-clause-raw g c = search rules

pub returns-in_err-take_bytes-clause-outside : goal.returns-in_err-take_bytes-clause-outside
returns-in_err-take_bytes-clause-outside g c = search rules

pub returns-in_err-take_bytes-clause-begun : goal.returns-in_err-take_bytes-clause-begun
returns-in_err-take_bytes-clause-begun g c = search rules

pub returns-in_err-take_bytes-clause-emptied : goal.returns-in_err-take_bytes-clause-emptied
returns-in_err-take_bytes-clause-emptied g c = search rules

pub returns-in_err-take_bytes-clause-reads : goal.returns-in_err-take_bytes-clause-reads
returns-in_err-take_bytes-clause-reads g c = search rules

pub returns-in_err-take_bytes-clause-fewer : goal.returns-in_err-take_bytes-clause-fewer
returns-in_err-take_bytes-clause-fewer g c = search rules

pub returns-in_err-take_bytes-clause-unasked : goal.returns-in_err-take_bytes-clause-unasked
returns-in_err-take_bytes-clause-unasked g c = search rules

pub returns-in_err-refill-clause-raw : goal.returns-in_err-refill-clause-raw
returns-in_err-refill-clause-raw g c = search rules

pub returns-in_err-refill-clause-fault : goal.returns-in_err-refill-clause-fault
returns-in_err-refill-clause-fault g c = search rules

pub returns-in_err-refill-clause-outside : goal.returns-in_err-refill-clause-outside
returns-in_err-refill-clause-outside g c = search rules

pub returns-in_err-refill-clause-emptied : goal.returns-in_err-refill-clause-emptied
returns-in_err-refill-clause-emptied g c = search rules

pub returns-in_err-refill-clause-reads : goal.returns-in_err-refill-clause-reads
returns-in_err-refill-clause-reads g c = search rules

pub returns-in_err-refill-clause-fewer : goal.returns-in_err-refill-clause-fewer
returns-in_err-refill-clause-fewer g c = search rules

pub returns-in_err-refill-clause-unasked : goal.returns-in_err-refill-clause-unasked
returns-in_err-refill-clause-unasked g c = search rules

pub returns-in_err-refill-clause-spent : goal.returns-in_err-refill-clause-spent
returns-in_err-refill-clause-spent g c = search rules

pub returns-in_err-take_bytes-2-clause-raw : goal.returns-in_err-take_bytes-2-clause-raw
returns-in_err-take_bytes-2-clause-raw g c = search rules

pub returns-in_err-take_bytes-2-clause-outside : goal.returns-in_err-take_bytes-2-clause-outside
returns-in_err-take_bytes-2-clause-outside g c = search rules

pub returns-in_err-take_bytes-2-clause-begun : goal.returns-in_err-take_bytes-2-clause-begun
returns-in_err-take_bytes-2-clause-begun g c = search rules

pub returns-in_err-take_bytes-2-clause-emptied : goal.returns-in_err-take_bytes-2-clause-emptied
returns-in_err-take_bytes-2-clause-emptied g c = search rules

pub returns-in_err-take_bytes-2-clause-reads : goal.returns-in_err-take_bytes-2-clause-reads
returns-in_err-take_bytes-2-clause-reads g c = search rules

pub returns-in_err-take_bytes-2-clause-fewer : goal.returns-in_err-take_bytes-2-clause-fewer
returns-in_err-take_bytes-2-clause-fewer g c = search rules

pub returns-in_err-take_bytes-2-clause-unasked : goal.returns-in_err-take_bytes-2-clause-unasked
returns-in_err-take_bytes-2-clause-unasked g c = search rules

pub returns-in_err-take_bytes-2-clause-spent : goal.returns-in_err-take_bytes-2-clause-spent
returns-in_err-take_bytes-2-clause-spent g c = search rules

pub loop-line-preserved : goal.loop-line-preserved
loop-line-preserved g c =
    let all = ap length c.unread-count.ensures.bytes in
    let is = c.in_ok-take_bytes.ensures.line in
    record {
      short = c.in_ok-take_bytes.ensures.short;
      no_feed = all_free c.loop-line.line.items c.loop-line.source.unread c.take_bytes.new.line.items (length c.unread-count.result.now)
          all is c.loop-line.invariant.no_feed c.loop-line.invariant.no_end;
      no_end = search rules;
      read = goes_on c.args.source.now.unread c.take_bytes.new.line.items c.refill.new.source.unread
          (all_taken c.args.source.now.unread c.loop-line.line.items c.loop-line.source.unread c.take_bytes.new.line.items
          (length c.unread-count.result.now) all is c.loop-line.invariant.read) c.in_ok-refill.ensures.read;
      reads = search rules;
      no_more = search rules;
      unasked = search rules;
      spent = search rules;
    }
