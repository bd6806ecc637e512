use Rattle.std.proofs.Common.{◌≡◌, ◌∙◌, ap, sym, refl, arith, Err, length}
use Rattle.std.specs.Prelude.{slice_get}
use Rattle.std.proofs.lemmas.Bool.{false≢true}
use Rattle.std.proofs.lemmas.Option.{slice_get_read}
use Rattle.std.proofs.lemmas.Result.{err_from_is_err_and}
use Rattle.bug_record.specs.Clones.{name_refusal}
use Rattle.store_contract.specs.Message.{unreadable_count, known_names, end_of}
use Rattle.store_contract.specs.Kept.{new_names}
use Rattle.store_contract.proofs.EndLemmas.{at_start_open}
use Rattle.message_recall.specs.declared.recalling.RecallFault.TheVariants.{Mismatch}
use Rattle.message_recall.proofs.ToldLemmas.{told-taken}
use Rattle.message_recall.proofs.RecallLemmas.{not_taken, told-length, recall-more, few-more, taken-at, never-few, ends-not}
use Rattle.message_recall.proofs.recalling.recall.Goals as goal

pub loop-i-init : goal.loop-i-init
loop-i-init c =
    let none = sym c.new-progress.ensures.outcomes in
    record {
      outcomes = c.new-progress.ensures.outcomes;
      few = omega arith;
      counted = c.new-progress.ensures.readable ∙ ap unreadable_count none;
      known = c.new-progress.ensures.names ∙ ap known_names none;
      ends = ap end_of c.new-progress.ensures.outcomes ∙ at_start_open;
    }

pub loop-i-preserved : goal.loop-i-preserved
loop-i-preserved c =
    let inv = c.loop-i.invariant in
    let lines = c.args.lines.now in
    let size = told-length lines c.args.kept.now c.loop-i.i _ (length c.as_slice.result.now) inv.few inv.outcomes (ap length c.as_slice.ensures.value) in
    let found = c.in-Some.ensures.lookup in
    let at = ap (slice_get c.args.kept.now) (sym size) ∙ slice_get_read c.args.kept.now _ (length c.as_slice.result.now) c.in-Some.outcome.now refl found.3.0 found.1 in
    record {
      outcomes = recall-more lines c.args.kept.now c.loop-i.i c.index-lines-i.result c.in-Some.outcome.now _ _ c.loop-i-test.true
          c.index-lines-i.is at inv.outcomes c.in_ok-end.ensures.added;
      few = few-more lines c.args.kept.now c.loop-i.i c.index-lines-i.result c.in-Some.outcome.now c.loop-i-test.true
          c.index-lines-i.is at;
      counted = c.in_ok-end.ensures.counted;
      known = c.in_ok-end.ensures.known;
      ends = c.in_ok-end.ensures.end;
    }

pub returns-in-None-clause-outcomes : goal.returns-in-None-clause-outcomes
returns-in-None-clause-outcomes c =
    let inv = c.loop-i.invariant in
    let size = told-length c.args.lines.now c.args.kept.now c.loop-i.i _ (length c.as_slice.result.now) inv.few inv.outcomes (ap length c.as_slice.ensures.value) in
    let past = c.in-None.ensures.lookup.3 in
    inv.outcomes ∙ told-taken c.args.lines.now c.args.kept.now c.loop-i.i (omega (arith, size, past))

pub returns-in-None-clause-lines : goal.returns-in-None-clause-lines
returns-in-None-clause-lines c =
    let inv = c.loop-i.invariant in
    let size = told-length c.args.lines.now c.args.kept.now c.loop-i.i _ (length c.as_slice.result.now) inv.few inv.outcomes (ap length c.as_slice.ensures.value) in
    let past = c.in-None.ensures.lookup.3 in
    taken-at c.args.lines.now c.args.kept.now c.loop-i.i c.loop-i.i refl (omega arith) inv.few (omega (arith, size, past))

pub returns-then-not-goes_on-clause-mismatch : goal.returns-then-not-goes_on-clause-mismatch
returns-then-not-goes_on-clause-mismatch c = λ _ are.
    let inv = c.loop-i.invariant in
    let lines = c.args.lines.now in
    let size = told-length lines c.args.kept.now c.loop-i.i _ (length c.as_slice.result.now) inv.few inv.outcomes (ap length c.as_slice.ensures.value) in
    let found = c.in-Some.ensures.lookup in
    let at = ap (slice_get c.args.kept.now) (sym size) ∙ slice_get_read c.args.kept.now _ (length c.as_slice.result.now) c.in-Some.outcome.now refl found.3.0 found.1 in
    let on = ends-not lines c.args.kept.now c.loop-i.i _ c.loop-i.end c.in-Some.outcome.now are inv.outcomes inv.ends at in
    false≢true (sym c.if-not-goes_on.true ∙ (c.goes_on.ensures ∙ on))

pub returns-in_err-end-clause-mismatch : goal.returns-in_err-end-clause-mismatch
returns-in_err-end-clause-mismatch c = λ e are.
    let inv = c.loop-i.invariant in
    let lines = c.args.lines.now in
    let size = told-length lines c.args.kept.now c.loop-i.i _ (length c.as_slice.result.now) inv.few inv.outcomes (ap length c.as_slice.ensures.value) in
    let found = c.in-Some.ensures.lookup in
    let at = ap (slice_get c.args.kept.now) (sym size) ∙ slice_get_read c.args.kept.now _ (length c.as_slice.result.now) c.in-Some.outcome.now refl found.3.0 found.1 in
    let p = err_from_is_err_and c.from_residual.result c.from_residual.ensures.1 in
    let fault : c.in_err-end.field-0.0 ≡ Mismatch = cc (e, p.1, p.2) in
    let there = c.in_err-end.ensures.told (ap Err fault) in
    c.in_err-end.ensures.mismatch (ap Err fault)
    (ap (λ es. name_refusal (known_names es) (new_names (c.index-lines-i.result, c.in-Some.outcome.now))) inv.outcomes
    ∙ not_taken lines c.args.kept.now c.loop-i.i c.index-lines-i.result c.in-Some.outcome.now are c.loop-i-test.true
    c.index-lines-i.is there at)

pub returns-then-as_slice-kept-clause-mismatch : goal.returns-then-as_slice-kept-clause-mismatch
returns-then-as_slice-kept-clause-mismatch c = λ _ are.
    let inv = c.loop-i.invariant in
    let size = told-length c.args.lines.now c.args.kept.now c.loop-i.i _ (length c.as_slice-2.result.now) inv.few inv.outcomes (ap length c.as_slice-2.ensures.value) in
    never-few c.args.lines.now c.args.kept.now c.loop-i.i (length c.as_slice-2.result.now) are (omega arith) size c.if-as_slice-kept.true

pub returns-clause-lines : goal.returns-clause-lines
returns-clause-lines c =
    let inv = c.loop-i.invariant in
    let size = told-length c.args.lines.now c.args.kept.now c.loop-i.i _ (length c.as_slice-2.result.now) inv.few inv.outcomes (ap length c.as_slice-2.ensures.value) in
    taken-at c.args.lines.now c.args.kept.now c.loop-i.i (length c.args.lines.now) (omega arith) (omega arith) inv.few
    (omega (arith, size))
