use Rattle.std.proofs.Common.{List, subst, arith}
use Rattle.std.proofs.lemmas.Grind.{common_steps}
use Rattle.bug_record.specs.Images.{numbers_of}
use Rattle.bug_record.specs.declared.bug.Member.{Member}
use Rattle.bug_images.specs.Parted.{AreAmong}
use Rattle.bug_images.proofs.PartedLemmas.{parts-more}
use Rattle.bug_images.proofs.parted.are_parts.Goals as goal

pub loop-part-preserved : goal.loop-part-preserved
loop-part-preserved c = λ others. c.loop-part.invariant
    (parts-more c.args.parts.now c.loop-part.part-index c.part-item.result (numbers_of c.args.whole.now) c.loop-part-test.true
    c.part-item.is
    (subst (λ (ms : List Member). AreAmong (numbers_of ms) (numbers_of c.args.whole.now)) c.as_slice.ensures
    (c.are_within.ensures c.if-not-are_within.false)) others)

pub returns-then-not-are_within : goal.returns-then-not-are_within
returns-then-not-are_within c = grind (arith, common_steps)

pub returns : goal.returns
returns c = grind (arith, common_steps)
