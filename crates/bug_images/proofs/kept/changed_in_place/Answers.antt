use Rattle.std.proofs.Common.{◌≡◌, true, false, sym, ap, ◌∙◌, arith}
use Rattle.std.proofs.lemmas.Grind.{common_steps}
use Rattle.std.proofs.lemmas.Result.{IfOk-weaker}
use Rattle.bug_record.specs.Changed.{same_shared}
use Rattle.bug_record.specs.Images.{numbers_of}
use Rattle.bug_images.specs.Kept.{retold}
use Rattle.bug_images.proofs.KeptLemmas.{changed-shared, changed-retold}
use Rattle.bug_images.proofs.kept.changed_in_place.Goals as goal

pub returns-then-not-same_shared : goal.returns-then-not-same_shared
returns-then-not-same_shared c =
    let other : same_shared c.args.old.now.shared c.args.new.now.shared ≡ false =
    sym (λ j. same_shared (c.fields.ensures j) (c.fields-2.ensures j)) ∙ sym c.same_shared.ensures
    ∙ c.if-not-same_shared.true in
    IfOk-weaker c.numbers_of.result _ _
    (λ r e. changed-shared c.args.old.now c.args.new.now r c.requires.kept other
    (e ∙ ap numbers_of c.as_slice-members.ensures)) c.numbers_of.ensures

pub returns : goal.returns
returns c =
    let alike : same_shared c.args.old.now.shared c.args.new.now.shared ≡ true =
    sym (λ j. same_shared (c.fields.ensures j) (c.fields-2.ensures j)) ∙ sym c.same_shared.ensures
    ∙ c.if-not-same_shared.false in
    IfOk-weaker c.retold.result _ _
    (λ r e. changed-retold c.args.old.now c.args.new.now r c.requires.kept alike
    (e ∙ (λ j. retold (c.as_slice.ensures j) (c.as_slice-members.ensures j)))) c.retold.ensures

pub retold-requires : goal.retold-requires
retold-requires c = grind (arith, common_steps)
