use Rattle.std.proofs.Common.{ap, ◌∙◌}
use Rattle.bug_record.specs.Sets.{has}
use Rattle.bug_record.specs.declared.bug.Shared.{Shared}
use Rattle.std.specs.Prelude.{nat_eq}
use Rattle.std.specs.HashSet.{contains}
use Rattle.store_sets.proofs.NamedLemmas.{more_images, no_more_images}
use Rattle.store_sets.proofs.named.add_blockers.Goals as goal

pub loop-image-preserved : goal.loop-image-preserved
loop-image-preserved c = record {
  keeps = λ n h. c.add_numbers.ensures.keeps n (c.loop-image.invariant.keeps n h);
  adds = λ f within rest.
      c.loop-image.invariant.adds f (λ n h. within n (c.add_numbers.ensures.keeps n h))
      (more_images f c.args.images.now c.loop-image.image-index c.image-item.result c.loop-image-test.true c.image-item.is
      (λ n h. within n (c.in_ok-add_numbers.ensures.adds n (ap (λ ns. has ns n) (c.as_slice.ensures ∙ ap (λ (s : Shared). s.blockers) c.fields.ensures) ∙ h)))
      rest);
}

pub returns-clause-adds : goal.returns-clause-adds
returns-clause-adds c = c.loop-image.invariant.adds (contains nat_eq c.loop-image.named) (λ n h. h)
    (no_more_images (contains nat_eq c.loop-image.named) c.args.images.now c.loop-image.image-index c.loop-image-test.false)
