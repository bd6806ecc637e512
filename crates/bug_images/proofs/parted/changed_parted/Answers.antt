use Rattle.std.proofs.Common.{◌≡◌, length, ap, ◌∙◌, arith}
use Rattle.std.proofs.lemmas.Result.{IfOk-weaker}
use Rattle.bug_record.specs.Images.{numbers_of}
use Rattle.bug_images.proofs.PartedLemmas.{one_item, changed-whole, changed-into_whole}
use Rattle.bug_images.proofs.parted.changed_parted.Goals as goal

pub returns-in-len1-default : goal.returns-in-len1-default
returns-in-len1-default c =
    let one : length c.args.old.now ≡ 1 = omega arith in
    IfOk-weaker c.numbers_of.result _ _
    (λ r e. changed-whole c.args.old.now c.args.new.now c.whole-item.result r c.requires
    (one_item c.args.old.now c.whole-item.result one c.whole-item.is) (c.has_all.ensures c.if-has_all.true)
    (e ∙ ap numbers_of c.as_slice.ensures))
    c.numbers_of.ensures

pub returns-in_default-len1 : goal.returns-in_default-len1
returns-in_default-len1 c =
    let whole = c.whole-item-then-this-lt2.result in
    let one : length c.args.new.now ≡ 1 = omega arith in
    IfOk-weaker c.numbers_of-in_default-len1.result _ _
    (λ r e. changed-into_whole c.args.old.now c.args.new.now whole r c.requires
    (one_item c.args.new.now whole one c.whole-item-then-this-lt2.is)
    (c.has_all-then-this-lt2.ensures c.if-has_all-2.true)
    (e ∙ ap numbers_of c.as_slice-in_default-len1.ensures))
    c.numbers_of-in_default-len1.ensures
