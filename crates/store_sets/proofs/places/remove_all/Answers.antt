use Rattle.std.proofs.Common.{ℕ, None, ◌∙◌}
use Rattle.std.proofs.lemmas.List.{drop_more}
use Rattle.store_sets.proofs.PlaceLemmas.{written_more}
use Rattle.store_sets.proofs.places.remove_all.Goals as goal

pub loop-number-preserved : goal.loop-number-preserved
loop-number-preserved c =
    λ n. written_more (λ (k : ℕ). None) c.loop-number.bugs c.take_out.new.bugs _ _ _ n
    (drop_more c.args.numbers.now c.loop-number.number-index 0 c.loop-number-test.true) (c.take_out.ensures n)
    ∙ c.loop-number.invariant n
