use Rattle.std.proofs.Common.{◌≡◌, ◌∙◌, length, arith}
use Rattle.store_sets.proofs.PlaceLemmas.{one_item, only-put}
use Rattle.store_sets.proofs.places.put_images.Goals as goal

pub returns-in-Some-clause-ok : goal.returns-in-Some-clause-ok
returns-in-Some-clause-ok c = λ n.
    let one : length c.args.images.now ≡ 1 = omega arith in
    only-put c.args.bugs.now c.put.new.bugs c.args.images.now c.image-item.result c.of-copy.result c.in-Some.key n
    (one_item c.args.images.now c.image-item.result one c.image-item.is) (c.of-copy.ensures ∙ c.in_ok-copy.ensures) c.in-Some.ensures
    (c.in_ok-put.ensures.ok n)
