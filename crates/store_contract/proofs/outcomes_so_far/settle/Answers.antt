use Rattle.std.proofs.Common.{arith, sym, ◌∙◌}
use Rattle.store_contract.specs.Message.{is_unreadable}
use Rattle.store_contract.proofs.EndLemmas.{few, one_at_most, count-push, end_at_stop, end_at_fifth, end_not_yet}
use Rattle.store_contract.proofs.outcomes_so_far.settle.Goals as goal

pub overflow_add-progress : goal.overflow_add-progress
overflow_add-progress c =
    let f = few c.args.progress.now.outcomes.items c.requires.ready.goes_on in
    let o = one_at_most (is_unreadable c.args.outcome) in
    let n = c.requires.ready.counted in
    omega (arith, f, o, n)

pub returns-then-stops-clause-end : goal.returns-then-stops-clause-end
returns-then-stops-clause-end c =
    end_at_stop c.args.progress.now.outcomes.items _ (c.args.text, c.args.outcome) c.requires.ready.goes_on c.add.ensures
    (sym c.is_stop-stops.ensures ∙ c.if-stops.true)

pub returns-then-progress-ge5-clause-end : goal.returns-then-progress-ge5-clause-end
returns-then-progress-ge5-clause-end c =
    let n = count-push c.args.progress.now.outcomes.items _ (c.args.text, c.args.outcome) c.add.ensures in
    let m = c.requires.ready.counted in
    end_at_fifth c.args.progress.now.outcomes.items _ (c.args.text, c.args.outcome) c.requires.ready.goes_on c.add.ensures
    (sym c.is_stop-stops.ensures ∙ c.if-stops.false) (omega (arith, n, m))

pub returns-else-progress-ge5-clause-end : goal.returns-else-progress-ge5-clause-end
returns-else-progress-ge5-clause-end c =
    let n = count-push c.args.progress.now.outcomes.items _ (c.args.text, c.args.outcome) c.add.ensures in
    let m = c.requires.ready.counted in
    end_not_yet c.args.progress.now.outcomes.items _ (c.args.text, c.args.outcome) c.requires.ready.goes_on c.add.ensures
    (sym c.is_stop-stops.ensures ∙ c.if-stops.false) (omega (arith, n, m))
