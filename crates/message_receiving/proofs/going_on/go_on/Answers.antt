use Rattle.std.proofs.Common.{ℕ, ◌≤◌, ◌+◌, List, [], ◌∷◌, ◌∙◌, sym, ap, subst, refl, arith, length, take, drop, length-append}
use Rattle.std.specs.Prelude.{slice_get}
use Rattle.std.proofs.lemmas.List.{take_all}
use Rattle.store_contract.specs.Progress.{goes_on}
use Rattle.message_receiving.proofs.MachineLemmas.{goes_on-all, settled_faults, settled_line, failed_line}
use Rattle.store_contract.proofs.HoldsLemmas.{holds_weaker}
use Rattle.store_contract.specs.Kept.{lines_told}
use Rattle.message_receiving.proofs.GoingLemmas.{carry, carry_both, going-first, going-more, going-all, resumes-ended, resumes-failed-in}
use Rattle.message_recall.proofs.ToldLemmas.{lines-more}
use Rattle.message_receiving.proofs.ToldLemmas.{place-of}
use Rattle.message_receiving.proofs.CrashLemmas.{own_first, tried_failed, once_settled}
use Rattle.message_receiving.proofs.going_on.go_on.Goals as goal

pub loop-i-init : goal.loop-i-init
loop-i-init g c = record {
  in_step = c.requires.in_step;
  all = c.requires.all;
  later = omega arith;
  faults = refl;
  honest = λ w. w;
  taken = λ earlier h. holds_weaker h (λ b. going-first c.args.id.now c.args.from.now c.args.message.now _ _
      c.args.recalled.progress.outcomes.items _ c.args.lines.now c.args.recalled.lines c.requires.all b);
  left = λ earlier h. holds_weaker h (λ b alone. alone);
}

pub loop-i-preserved : goal.loop-i-preserved
loop-i-preserved g c =
    let inv = c.loop-i.invariant in
    let lines = c.args.lines.now in
    let line = c.index-lines-i.result in
    let before = c.args.recalled.progress.outcomes.items in
    let more = c.in-Ok.ensures.length in
    let le : length c.args.recalled.progress.outcomes.items ≤ length (lines_told (take c.loop-i.i c.args.lines.now)) =
    omega (arith, inv.all, inv.later) in
    record {
      in_step = record {
        counted = c.in-Ok.ensures.counted;
        known_are = c.in-Ok.ensures.known;
        goes_on = c.in-Ok.ensures.end ∙ goes_on-all c.in-Ok.end (sym c.goes_on.ensures ∙ c.if-not-goes_on.false);
      };
      all = ap length (lines-more lines c.loop-i.i line c.loop-i-test.true c.index-lines-i.is)
          ∙ (length-append (lines_told (take c.loop-i.i lines)) (lines_told (line ∷ []))
          ∙ (ap (λ (n : ℕ). n + length (lines_told (line ∷ []))) inv.all ∙ sym more));
      later = omega (arith, more, inv.later);
      faults = c.in-Ok.ensures.count ∙ inv.faults;
      honest = λ w. inv.honest (c.in-Ok.ensures.honest w);
      taken = λ earlier h.
          let x = inv.taken earlier h in
          carry x (c.in-Ok.ensures.answer earlier (holds_weaker x (λ p. p.begun))) c.in-Ok.ensures.honest
          (λ p q. going-more c.args.id.now c.args.from.now c.args.message.now line _ _ _ _ _ _ before
          c.loop-i.progress.outcomes.items _ _ _ lines c.loop-i.i c.loop-i-test.true c.index-lines-i.is le inv.in_step.goes_on p q);
      left = λ earlier h.
          carry (inv.left earlier h)
          (c.in-Ok.ensures.crash earlier (holds_weaker (inv.taken earlier h) (λ p. p.begun))) c.in-Ok.ensures.honest
          (λ p q alone. q (p alone));
    }

pub take_line-requires-clause-place : goal.take_line-requires-clause-place
take_line-requires-clause-place g c = λ there.
    let inv = c.loop-i.invariant in
    ap (λ (w : List (List ℕ)). slice_get (lines_told w) (length c.loop-i.progress.outcomes.items)) (sym c.requires.lines)
    ∙ (ap (λ (n : ℕ). slice_get (lines_told c.args.lines.now) n) (sym inv.all)
    ∙ place-of c.args.lines.now c.loop-i.i c.index-lines-i.result c.loop-i-test.true c.index-lines-i.is there)

pub take_line-requires-clause-begun : goal.take_line-requires-clause-begun
take_line-requires-clause-begun g c = record {
  earlier = c.requires.begun.earlier;
  holds = holds_weaker (c.loop-i.invariant.taken c.requires.begun.earlier c.requires.begun.holds) (λ p. p.begun);
}

pub returns-then-not-goes_on-clause-answer : goal.returns-then-not-goes_on-clause-answer
returns-then-not-goes_on-clause-answer g c = λ earlier h.
    let inv = c.loop-i.invariant in
    let lines = c.args.lines.now in
    let line = c.index-lines-i.result in
    let before = c.args.recalled.progress.outcomes.items in
    let more = c.in-Ok.ensures.length in
    let le : length c.args.recalled.progress.outcomes.items ≤ length (lines_told (take c.loop-i.i c.args.lines.now)) =
    omega (arith, inv.all, inv.later) in
    let sum = ap length (lines-more lines c.loop-i.i line c.loop-i-test.true c.index-lines-i.is)
    ∙ length-append (lines_told (take c.loop-i.i lines)) (lines_told (line ∷ [])) in
    let le_more : length c.args.recalled.progress.outcomes.items ≤ length (lines_told (take (c.loop-i.i + 1) c.args.lines.now)) =
    omega (arith, le, sum) in
    let x = inv.taken earlier h in
    let z = carry x (c.in-Ok.ensures.answer earlier (holds_weaker x (λ p. p.begun))) c.in-Ok.ensures.honest
    (λ p q. going-more c.args.id.now c.args.from.now c.args.message.now line _ _ _ _ _ _ before
    c.loop-i.progress.outcomes.items _ _ _ lines c.loop-i.i c.loop-i-test.true c.index-lines-i.is le inv.in_step.goes_on p q) in
    carry h z (λ w. inv.honest (c.in-Ok.ensures.honest w))
    (λ b p. resumes-ended c.args.id.now c.args.from.now c.args.message.now _ _ _ _ before _ c.received.result.outcomes _ _
    c.received.result.end (drop (length before) (lines_told lines)) b
    (ap (λ (w : List (List ℕ)). drop (length before) (lines_told w)) c.requires.lines)
    (c.in-Ok.ensures.end ∙ sym c.received.ensures.end) c.received.ensures.outcomes
    (going-all c.args.id.now c.args.from.now c.args.message.now _ _ _ _ before _ _ lines (c.loop-i.i + 1) le_more
    (ap goes_on c.in-Ok.ensures.end ∙ (sym c.goes_on.ensures ∙ c.if-not-goes_on.true)) p))

pub returns-in-Err-clause-answer : goal.returns-in-Err-clause-answer
returns-in-Err-clause-answer g c = λ earlier h.
    let inv = c.loop-i.invariant in
    let lines = c.args.lines.now in
    let before = c.args.recalled.progress.outcomes.items in
    let le : length c.args.recalled.progress.outcomes.items ≤ length (lines_told (take c.loop-i.i c.args.lines.now)) =
    omega (arith, inv.all, inv.later) in
    let x = inv.taken earlier h in
    let y = carry_both x (c.in-Err.ensures.answer earlier (holds_weaker x (λ p. p.begun))) c.in-Err.ensures.honest in
    carry h y (λ w. inv.honest (c.in-Err.ensures.honest w))
    (λ b p. resumes-failed-in c.args.id.now c.args.from.now c.args.message.now _ _ _ _ _ _ before c.loop-i.progress.outcomes.items
    c.received-in-Err.result.outcomes _ _ c.in-Err.fault lines c.loop-i.i c.received-in-Err.result.end c.requires.lines
    c.received-in-Err.ensures.end c.loop-i-test.true le b inv.in_step.goes_on
    (c.received-in-Err.ensures.outcomes ∙ c.in-Err.ensures.same) p.0 p.1)

pub returns-clause-answer : goal.returns-clause-answer
returns-clause-answer g c = λ earlier h.
    let inv = c.loop-i.invariant in
    let lines = c.args.lines.now in
    let before = c.args.recalled.progress.outcomes.items in
    let past : length c.args.lines.now ≤ c.loop-i.i = omega arith in
    carry h (inv.taken earlier h) inv.honest
    (λ b p. resumes-ended c.args.id.now c.args.from.now c.args.message.now _ _ _ _ before _ c.received-2.result.outcomes _ _
    c.received-2.result.end (drop (length before) (lines_told (take c.loop-i.i lines))) b
    (ap (λ (w : List (List ℕ)). drop (length before) (lines_told w)) (take_all c.loop-i.i lines past ∙ c.requires.lines))
    (inv.in_step.goes_on ∙ sym c.received-2.ensures.end) c.received-2.ensures.outcomes p)

pub returns-then-not-goes_on-clause-line : goal.returns-then-not-goes_on-clause-line
returns-then-not-goes_on-clause-line g c =
    settled_line c.take_line.new.progress.outcomes.items c.received.result.end c.args.lines.now
    (c.in-Ok.ensures.end ∙ sym c.received.ensures.end)

pub returns-in-Err-clause-line : goal.returns-in-Err-clause-line
returns-in-Err-clause-line g c =
    failed_line c.args.lines.now c.loop-i.i c.index-lines-i.result c.in-Err.fault c.received-in-Err.result.end c.loop-i-test.true
    c.index-lines-i.is c.in-Err.ensures.failed c.received-in-Err.ensures.end

pub returns-then-not-goes_on-clause-count : goal.returns-then-not-goes_on-clause-count
returns-then-not-goes_on-clause-count g c =
    let ended = c.in-Ok.ensures.end ∙ sym c.received.ensures.end in
    c.in-Ok.ensures.count
    ∙ (c.loop-i.invariant.faults ∙ sym (settled_faults c.take_line.new.progress.outcomes.items c.received.result.end _ ended))

pub returns-then-not-goes_on-clause-crash : goal.returns-then-not-goes_on-clause-crash
returns-then-not-goes_on-clause-crash g c = λ earlier h.
    let inv = c.loop-i.invariant in
    let ended = c.in-Ok.ensures.end ∙ sym c.received.ensures.end in
    let store = c.take_line.new.store in
    let none = once_settled c.args.id.now c.args.from.now c.args.message.now
    (g.S.Records.desk c.args.store.now, g.S.Records.keeping c.args.store.now)
    (g.S.Records.desk store, g.S.Records.keeping store) c.take_line.new.progress.outcomes.items c.received.result.end ended in
    carry (inv.left earlier h)
    (c.in-Ok.ensures.crash earlier (holds_weaker (inv.taken earlier h) (λ p. p.begun))) c.in-Ok.ensures.honest
    (λ p q alone. subst (g.S.Records.leaves store (g.S.Records.desk store, g.S.Records.keeping store)) (sym none) (q (p alone)))

pub returns-in-Err-clause-crash : goal.returns-in-Err-clause-crash
returns-in-Err-clause-crash g c = λ earlier h.
    let inv = c.loop-i.invariant in
    let before = c.args.recalled.progress.outcomes.items in
    let k = g.S.Records.keeping c.args.store.now in
    let store = c.take_line.new.store in
    let le : length c.args.recalled.progress.outcomes.items ≤ length (lines_told (take c.loop-i.i c.args.lines.now)) =
    omega (arith, inv.all, inv.later) in
    let x = inv.taken earlier h in
    let y = carry_both x (c.in-Err.ensures.crash earlier (holds_weaker x (λ p. p.begun))) c.in-Err.ensures.honest in
    let z = carry_both (inv.left earlier h) y c.in-Err.ensures.honest in
    carry h z (λ w. inv.honest (c.in-Err.ensures.honest w))
    (λ b p alone.
    let tried = tried_failed c.args.id.now c.args.from.now c.args.message.now c.index-lines-i.result
    (g.S.Records.desk c.args.store.now) (g.S.Records.desk c.loop-i.store) k (g.S.Records.keeping c.loop-i.store) before
    c.loop-i.progress.outcomes.items _ _ c.in-Err.fault c.args.lines.now c.loop-i.i c.received-in-Err.result.end
    (g.S.Records.desk store, g.S.Records.keeping store) c.requires.lines c.received-in-Err.ensures.end c.loop-i-test.true
    c.index-lines-i.is le inv.in_step.goes_on b p.1.0 in
    subst (g.S.Records.leaves store (g.S.Records.desk store, g.S.Records.keeping store)) tried
    (p.1.1 k (p.1.0.keeps k (own_first c.args.id.now c.args.from.now c.args.message.now k before _ b)) (p.0 alone)))

pub returns-clause-crash : goal.returns-clause-crash
returns-clause-crash g c = rw c.received-2.ensures.end c.loop-i.invariant.left
