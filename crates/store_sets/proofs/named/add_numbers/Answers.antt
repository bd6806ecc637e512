use Rattle.std.specs.Prelude.{nat_eq}
use Rattle.std.specs.HashSet.{contains}
use Rattle.store_sets.proofs.NamedLemmas.{one_more, more_numbers, no_more_numbers}
use Rattle.store_sets.proofs.named.add_numbers.Goals as goal

pub loop-number-preserved : goal.loop-number-preserved
loop-number-preserved c =
    let step = one_more (contains nat_eq c.loop-number.named) (contains nat_eq c.insert.new.self) _ c.in_ok-insert.ensures.updates.0 in
    record {
      keeps = λ n h. step.0 n (c.loop-number.invariant.keeps n h);
      adds = λ f within rest. c.loop-number.invariant.adds f (λ n h. within n (step.0 n h))
          (more_numbers f c.args.numbers.now c.loop-number.number-index c.loop-number-test.true (within _ step.1) rest);
    }

pub returns-clause-adds : goal.returns-clause-adds
returns-clause-adds c = c.loop-number.invariant.adds (contains nat_eq c.loop-number.named) (λ n h. h)
    (no_more_numbers (contains nat_eq c.loop-number.named) c.args.numbers.now c.loop-number.number-index c.loop-number-test.false)
