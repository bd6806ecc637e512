use Rattle.std.proofs.Common.{ℕ, Some, ◌∙◌}
use Rattle.std.proofs.lemmas.List.{drop_more}
use Rattle.store_sets.specs.declared.places.Place.TheVariants.{After}
use Rattle.store_sets.proofs.PlaceLemmas.{written_more, unwritten, at_err}
use Rattle.store_sets.proofs.places.add_places.Goals as goal

pub loop-number-preserved : goal.loop-number-preserved
loop-number-preserved c =
    λ n. written_more (λ (k : ℕ). Some (After k)) c.loop-number.bugs c.put.new.bugs _ _ _ n
    (drop_more c.args.numbers.now c.loop-number.number-index 0 c.loop-number-test.true) (c.in_ok-put.ensures.ok n)
    ∙ c.loop-number.invariant n

pub returns-in_err-put-clause-err : goal.returns-in_err-put-clause-err
returns-in_err-put-clause-err c = at_err c.from_residual.result _ (λ n e.
    c.in_err-put.ensures.err n
    ∙ unwritten (λ (k : ℕ). Some (After k)) c.args.bugs.now c.loop-number.bugs c.args.numbers.now c.loop-number.number-index n
    (c.loop-number.invariant n) e)
