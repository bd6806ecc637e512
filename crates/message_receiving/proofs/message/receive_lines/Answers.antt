use Rattle.std.proofs.Common.{arith, ◌∙◌, sym, ap, subst, refl}
use Rattle.store_contract.proofs.HoldsLemmas.{holds_none, holds_then, holds_weaker}
use Rattle.store_contract.specs.Message.{machine, takes, unreadable_count, end_of, known_names}
use Rattle.store_contract.specs.Progress.{HaveNumbers}
use Rattle.store_contract.specs.Progress.{goes_on}
use Rattle.store_contract.proofs.EndLemmas.{at_start_open}
use Rattle.message_receiving.proofs.MachineLemmas.{line_more, all_ended, received_all, tried_settled, received_ended, goes_on-all, settled_faults, settled_line, failed_line}
use Rattle.control_grammar.specs.Lines.{reading}
use Rattle.store_contract.proofs.TriedLemmas.{tried_then, tried_is, holds_three}
use Rattle.message_receiving.proofs.message.receive_lines.Goals as goal

pub loop-i-init : goal.loop-i-init
loop-i-init g c =
    let none = sym c.new-progress.ensures.outcomes in
    record {
      in_step = record {
        counted = c.new-progress.ensures.readable ∙ ap unreadable_count none;
        known_are = c.new-progress.ensures.names ∙ ap known_names none;
        goes_on = ap end_of (sym none) ∙ at_start_open;
      };
      faults = refl;
      stays = holds_none _ _ _ refl;
      taken = holds_none _ _ _ (
        ap (machine (g.S.Records.desk c.args.store.now)) none,
        subst HaveNumbers (sym c.new-progress.ensures.names) tt,
      );
      left = holds_none _ _ _ (λ alone. alone);
    }

pub loop-i-preserved : goal.loop-i-preserved
loop-i-preserved g c =
    let is = c.index-lines-i.is in
    record {
      in_step = record {
        counted = c.in-Ok.ensures.counted;
        known_are = c.in-Ok.ensures.known;
        goes_on = c.in-Ok.ensures.end ∙ goes_on-all c.in-Ok.end (sym c.goes_on.ensures ∙ c.if-not-goes_on.false);
      };
      faults = c.in-Ok.ensures.count ∙ c.loop-i.invariant.faults;
      stays = holds_then c.loop-i.invariant.stays c.in-Ok.ensures.stays (λ p q. q ∙ p);
      taken = holds_then c.loop-i.invariant.taken c.in-Ok.ensures.answer
          (λ p q.
          let r = q p.1 in (
            line_more c.args.from.now _ c.args.lines.now c.loop-i.i c.index-lines-i.result _ _ c.loop-i-test.true is
                c.loop-i.invariant.in_step.goes_on p.0 r.0,
            r.1,
          ));
      left = holds_then
          (holds_three c.loop-i.invariant.stays c.loop-i.invariant.taken c.loop-i.invariant.left)
          c.in-Ok.ensures.crash (λ p q. tried_then g.S.Records.leaves _ _ _ _ _ _ _ _ _ p.0 p.1.1 (q p.1.0.1));
    }

pub returns-then-not-goes_on-clause-answer : goal.returns-then-not-goes_on-clause-answer
returns-then-not-goes_on-clause-answer g c =
    let is = c.index-lines-i.is in
    let stays = sym c.goes_on.ensures ∙ c.if-not-goes_on.true in
    let ended = ap end_of c.received.ensures.outcomes ∙ (c.in-Ok.ensures.end ∙ sym c.received.ensures.end) in
    let here = ap goes_on c.in-Ok.ensures.end ∙ stays in
    holds_then c.loop-i.invariant.taken c.in-Ok.ensures.answer
    (λ p q. received_ended c.args.from.now c.args.lines.now _ _ _ c.received.result.end (ap goes_on c.received.ensures.end ∙ stays) ended
    (all_ended c.args.from.now _ c.args.lines.now _ _ here
    (line_more c.args.from.now _ c.args.lines.now c.loop-i.i c.index-lines-i.result _ _ c.loop-i-test.true is
    c.loop-i.invariant.in_step.goes_on p.0 (q p.1).0)
    ∙ ap (machine _) (sym c.received.ensures.outcomes)))

pub returns-then-not-goes_on-clause-stays : goal.returns-then-not-goes_on-clause-stays
returns-then-not-goes_on-clause-stays g c = holds_then c.loop-i.invariant.stays c.in-Ok.ensures.stays (λ p q. q ∙ p)

pub returns-then-not-goes_on-clause-count : goal.returns-then-not-goes_on-clause-count
returns-then-not-goes_on-clause-count g c =
    let ended = c.in-Ok.ensures.end ∙ sym c.received.ensures.end in
    c.in-Ok.ensures.count
    ∙ (c.loop-i.invariant.faults
    ∙ sym (settled_faults c.take_line.new.progress.outcomes.items c.received.result.end _ ended))

pub returns-then-not-goes_on-clause-line : goal.returns-then-not-goes_on-clause-line
returns-then-not-goes_on-clause-line g c =
    settled_line c.take_line.new.progress.outcomes.items c.received.result.end c.args.lines.now
    (c.in-Ok.ensures.end ∙ sym c.received.ensures.end)

pub returns-in-Err-clause-line : goal.returns-in-Err-clause-line
returns-in-Err-clause-line g c =
    failed_line c.args.lines.now c.loop-i.i c.index-lines-i.result c.in-Err.fault c.received-in-Err.result.end c.loop-i-test.true
    c.index-lines-i.is c.in-Err.ensures.failed c.received-in-Err.ensures.end

pub returns-then-not-goes_on-clause-crash : goal.returns-then-not-goes_on-clause-crash
returns-then-not-goes_on-clause-crash g c =
    let ended = c.in-Ok.ensures.end ∙ sym c.received.ensures.end in
    holds_then
    (holds_three c.loop-i.invariant.stays c.loop-i.invariant.taken c.loop-i.invariant.left)
    c.in-Ok.ensures.crash
    (λ p q. tried_is g.S.Records.leaves _ _ _ _ _ _ _
    (sym (tried_settled c.args.from.now c.args.lines.now (g.S.Records.desk c.args.store.now) _
    c.take_line.new.progress.outcomes.items c.received.result.end ended))
    (tried_then g.S.Records.leaves _ _ _ _ _ _ _ _ _ p.0 p.1.1 (q p.1.0.1)))

pub returns-in-Err-clause-crash : goal.returns-in-Err-clause-crash
returns-in-Err-clause-crash g c =
    let is = c.index-lines-i.is in
    rw c.received-in-Err.ensures.end (holds_then
    (holds_three c.loop-i.invariant.stays c.loop-i.invariant.taken c.loop-i.invariant.left)
    c.in-Err.ensures.crash
    (λ p q. tried_is g.S.Records.leaves _ _ _ _ _ _ _
    (sym (ap (λ m. m.desk) (line_more c.args.from.now _ c.args.lines.now c.loop-i.i c.index-lines-i.result _ _ c.loop-i-test.true is
    c.loop-i.invariant.in_step.goes_on p.1.0.0 refl)))
    (tried_then g.S.Records.leaves _ _ _ _ _ _ _ _ _ p.0 p.1.1 (q p.1.0.1))))

pub returns-clause-answer : goal.returns-clause-answer
returns-clause-answer g c =
    rw c.received-2.ensures.end (holds_weaker c.loop-i.invariant.taken
    (λ p. received_all c.args.from.now c.args.lines.now _ _ c.loop-i.i _ _ (omega (arith, c.loop-i-test.false))
    c.loop-i.invariant.in_step.goes_on p.0 c.received-2.ensures.outcomes))

pub returns-clause-crash : goal.returns-clause-crash
returns-clause-crash g c = rw c.received-2.ensures.end c.loop-i.invariant.left
