use Rattle.std.proofs.Common.{ℕ, List, ◌∙◌, sym, ap, refl, Err, length, take}
use Rattle.std.proofs.lemmas.Result.{err_from_is_err_and}
use Rattle.control_lines.specs.Lines.{lines_of}
use Rattle.store_contract.specs.Progress.{goes_on}
use Rattle.store_contract.specs.Kept.{lines_told, outcomes_kept}
use Rattle.message_receiving.proofs.MachineLemmas.{settled_faults, settled_line}
use Rattle.store_contract.proofs.HoldsLemmas.{holds_none, holds_weaker, holds_where, asks_weaker}
use Rattle.message_receiving.proofs.GoingLemmas.{carry, where_kept}
use Rattle.message_receiving.proofs.OnceLemmas.{recalled-begins, reused, once-ended, once-resumed, all-recalled}
use Rattle.message_receiving.proofs.CrashLemmas.{asked_left, asked_once, left_once}
use Rattle.message_receiving.proofs.once.receive_once.Goals as goal

pub returns-then-not-is_id-clause-answer : goal.returns-then-not-is_id-clause-answer
returns-then-not-is_id-clause-answer g c = holds_none _ _ _ (sym c.is_id.ensures ∙ c.if-not-is_id.true, refl, refl)

pub returns-in_err-kept-clause-answer : goal.returns-in_err-kept-clause-answer
returns-in_err-kept-clause-answer g c =
    let p = err_from_is_err_and c.from_residual.result c.from_residual.ensures.1 in
    rw (p.1, p.2) (holds_weaker c.in_err-kept.ensures.answer.holds
    (λ q. (sym c.is_id.ensures ∙ c.if-not-is_id.false, q, c.in_err-kept.ensures.stays)))

pub returns-then-not-goes_on-clause-answer : goal.returns-then-not-goes_on-clause-answer
returns-then-not-goes_on-clause-answer g c =
    let same = c.in-Ok.ensures.same in
    let outs = c.in-Ok.recalled.progress.outcomes.items in
    holds_where c.in_ok-kept.ensures.answer.holds
    (λ u w p. once-ended c.args.id.now c.args.from.now c.args.message.now _ _ (g.S.Records.keeping c.args.store.now) _ c.in_ok-kept.kept
    outs _ _ c.received.result.end (sym c.is_id.ensures ∙ c.if-not-is_id.false) p.0 same
    (recalled-begins c.args.id.now c.args.from.now c.args.message.now (g.S.Records.keeping c.args.store.now) _ c.in_ok-kept.kept _ _ outs _
    (g.met.S.Records.good _ u) p.0 same refl refl refl c.in-Ok.ensures.outcomes c.in-Ok.ensures.known)
    (c.in-Ok.ensures.end ∙ sym c.received.ensures.end)
    (ap goes_on c.received.ensures.end ∙ (sym c.goes_on.ensures ∙ c.if-not-goes_on.true)) c.received.ensures.outcomes p.1
    c.in_ok-kept.ensures.stays)

pub returns-then-not-goes_on-clause-line : goal.returns-then-not-goes_on-clause-line
returns-then-not-goes_on-clause-line g c =
    settled_line c.in-Ok.recalled.progress.outcomes.items c.received.result.end (lines_of c.args.message.now)
    (c.in-Ok.ensures.end ∙ sym c.received.ensures.end)

pub returns-then-not-goes_on-clause-count : goal.returns-then-not-goes_on-clause-count
returns-then-not-goes_on-clause-count g c =
    c.in_ok-kept.ensures.count
    ∙ sym (settled_faults c.in-Ok.recalled.progress.outcomes.items c.received.result.end _
    (c.in-Ok.ensures.end ∙ sym c.received.ensures.end))

pub go_on-requires-clause-all : goal.go_on-requires-clause-all
go_on-requires-clause-all g c =
    let lines = c.as_slice-lines.ensures.value ∙ c.in-Ok.ensures.split in
    ap (λ (w : List (List ℕ)). length (lines_told (take c.in-Ok.recalled.lines w))) lines
    ∙ all-recalled (lines_of c.args.message.now) (outcomes_kept c.in_ok-kept.kept) c.in-Ok.recalled.lines _ c.in-Ok.ensures.lines
    c.in-Ok.ensures.outcomes

pub go_on-requires-clause-begun : goal.go_on-requires-clause-begun
go_on-requires-clause-begun g c =
    let same = c.in-Ok.ensures.same in
    let lines = c.as_slice-lines.ensures.value ∙ c.in-Ok.ensures.split in
    record {
      earlier = c.args.store.now;
      holds = holds_where c.in_ok-kept.ensures.answer.holds
          (λ u w p. recalled-begins c.args.id.now c.args.from.now c.args.message.now (g.S.Records.keeping c.args.store.now) _
          c.in_ok-kept.kept _ _ c.in-Ok.recalled.progress.outcomes.items _ (g.met.S.Records.good _ u) p.0 same c.in_ok-kept.ensures.stays
          refl refl c.in-Ok.ensures.outcomes c.in-Ok.ensures.known);
    }

pub returns-else-not-goes_on-clause-answer : goal.returns-else-not-goes_on-clause-answer
returns-else-not-goes_on-clause-answer g c =
    let same = c.in-Ok.ensures.same in
    let lines = c.as_slice-lines.ensures.value ∙ c.in-Ok.ensures.split in
    let outs = c.in-Ok.recalled.progress.outcomes.items in
    let k = g.S.Records.keeping c.args.store.now in
    let a = c.in_ok-kept.ensures.answer.holds in
    carry
    (where_kept a
    (λ u w p. recalled-begins c.args.id.now c.args.from.now c.args.message.now k k c.in_ok-kept.kept _ _ outs _
    (g.met.S.Records.good _ u) p.0 same refl refl refl c.in-Ok.ensures.outcomes c.in-Ok.ensures.known))
    (c.go_on.ensures.answer c.args.store.now
    (holds_where a
    (λ u w p. recalled-begins c.args.id.now c.args.from.now c.args.message.now k _ c.in_ok-kept.kept _ _ outs _
    (g.met.S.Records.good _ u) p.0 same c.in_ok-kept.ensures.stays refl refl c.in-Ok.ensures.outcomes
    c.in-Ok.ensures.known)))
    c.go_on.ensures.honest
    (λ p r. once-resumed c.args.id.now c.args.from.now c.args.message.now _ _ _ k _ _ c.in_ok-kept.kept outs _ _ _
    (sym c.is_id.ensures ∙ c.if-not-is_id.false) p.0.0 same p.1 p.0.1 c.in_ok-kept.ensures.stays r)

pub returns-in-Err-Mismatch-clause-answer : goal.returns-in-Err-Mismatch-clause-answer
returns-in-Err-Mismatch-clause-answer g c =
    holds_where c.in_ok-kept.ensures.answer.holds (λ u w p. (
      sym c.is_id.ensures ∙ c.if-not-is_id.false,
      reused c.args.id.now c.args.from.now c.args.message.now (g.S.Records.keeping c.args.store.now) c.in_ok-kept.kept
          (g.met.S.Records.good _ u) p.0 (c.in-Err-Mismatch.ensures.mismatch (ap Err c.in-Err-Mismatch.field-0-is)),
      p.1,
      c.in_ok-kept.ensures.stays,
    ))

pub returns-else-not-goes_on-clause-crash : goal.returns-else-not-goes_on-clause-crash
returns-else-not-goes_on-clause-crash g c =
    let same = c.in-Ok.ensures.same in
    let lines = c.as_slice-lines.ensures.value ∙ c.in-Ok.ensures.split in
    let outs = c.in-Ok.recalled.progress.outcomes.items in
    let k = g.S.Records.keeping c.args.store.now in
    let store = c.go_on.new.store in
    carry (asked_left c.in_ok-kept.ensures.answer)
    (c.go_on.ensures.crash c.args.store.now
    (holds_where c.in_ok-kept.ensures.answer.holds
    (λ u w p. recalled-begins c.args.id.now c.args.from.now c.args.message.now k _ c.in_ok-kept.kept _ _ outs _
    (g.met.S.Records.good _ u) p.0 same c.in_ok-kept.ensures.stays refl refl c.in-Ok.ensures.outcomes
    c.in-Ok.ensures.known)))
    c.go_on.ensures.honest
    (λ p r. left_once g.S.Records.leaves c.args.store.now c.kept.new.self store c.args.id.now c.args.from.now c.args.message.now
    (g.S.Records.desk c.args.store.now) (g.S.Records.desk c.kept.new.self) k (g.S.Records.keeping c.kept.new.self) c.go_on.result.end
    (g.S.Records.desk store, g.S.Records.keeping store) p.0.1 c.in_ok-kept.ensures.stays p.1 r)

pub returns-then-not-is_id-clause-crash : goal.returns-then-not-is_id-clause-crash
returns-then-not-is_id-clause-crash g c = holds_none _ _ _ (λ a b l. l)

pub returns-in_err-kept-clause-crash : goal.returns-in_err-kept-clause-crash
returns-in_err-kept-clause-crash g c =
    let p = err_from_is_err_and c.from_residual.result c.from_residual.ensures.1 in
    rw p.1 (holds_weaker (asked_left c.in_err-kept.ensures.answer) (λ q. q.1))

pub returns-in_err-kept-clause-asked : goal.returns-in_err-kept-clause-asked
returns-in_err-kept-clause-asked g c =
    let p = err_from_is_err_and c.from_residual.result c.from_residual.ensures.1 in
    rw p.1 (asks_weaker c.in_err-kept.ensures.answer (λ q. tt))

pub returns-then-not-goes_on-clause-crash : goal.returns-then-not-goes_on-clause-crash
returns-then-not-goes_on-clause-crash g c =
    holds_weaker (asked_left c.in_ok-kept.ensures.answer)
    (λ p. asked_once g.S.Records.leaves g.met.S.Records.either c.args.store.now c.kept.new.self _ _ _ _ _ p.0.1
    c.in_ok-kept.ensures.stays p.1)

pub returns-in-Err-Mismatch-clause-crash : goal.returns-in-Err-Mismatch-clause-crash
returns-in-Err-Mismatch-clause-crash g c = holds_weaker (asked_left c.in_ok-kept.ensures.answer) (λ q. q.1)

pub returns-in-Err-Mismatch-clause-asked : goal.returns-in-Err-Mismatch-clause-asked
returns-in-Err-Mismatch-clause-asked g c = asks_weaker c.in_ok-kept.ensures.answer (λ q. tt)

pub returns-in-Err-Memory-clause-answer : goal.returns-in-Err-Memory-clause-answer
returns-in-Err-Memory-clause-answer g c =
    holds_weaker c.in_ok-kept.ensures.answer.holds
    (λ p. (sym c.is_id.ensures ∙ c.if-not-is_id.false, p.1, c.in_ok-kept.ensures.stays))

pub returns-in-Err-Memory-clause-crash : goal.returns-in-Err-Memory-clause-crash
returns-in-Err-Memory-clause-crash g c = holds_weaker (asked_left c.in_ok-kept.ensures.answer) (λ q. q.1)

pub returns-in-Err-Memory-clause-asked : goal.returns-in-Err-Memory-clause-asked
returns-in-Err-Memory-clause-asked g c = asks_weaker c.in_ok-kept.ensures.answer (λ q. tt)
