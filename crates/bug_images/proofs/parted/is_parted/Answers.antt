use Rattle.std.proofs.Common.{◌≡◌, length, sym, ◌∙◌, arith}
use Rattle.bug_images.proofs.PartedLemmas.{one_item, parted-one, parted-into_one}
use Rattle.bug_images.proofs.parted.is_parted.Goals as goal

pub returns-in-len1-default : goal.returns-in-len1-default
returns-in-len1-default c = λ h.
    let one : length c.args.old.now ≡ 1 = omega arith in
    parted-one c.image-item.result c.args.old.now c.args.new.now
    (one_item c.args.old.now c.image-item.result one c.image-item.is) (sym c.is_unlike.ensures ∙ h)

pub returns-in_default-len1 : goal.returns-in_default-len1
returns-in_default-len1 c = λ h.
    let one : length c.args.new.now ≡ 1 = omega arith in
    parted-into_one c.image-item-then-this-lt2.result c.args.old.now c.args.new.now
    (one_item c.args.new.now c.image-item-then-this-lt2.result one c.image-item-then-this-lt2.is)
    (sym c.is_unlike-in_default-len1.ensures ∙ h)
