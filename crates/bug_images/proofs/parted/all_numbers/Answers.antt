use Rattle.bug_images.proofs.PartedLemmas.{changed-all}
use Rattle.bug_images.proofs.parted.all_numbers.Goals as goal

pub returns : goal.returns
returns c =
    changed-all c.args.old.now c.args.new.now c.new-numbers.result.items c.add_numbers.new.numbers.items
    c.add_numbers-2.new.numbers.items c.in_order.result.items c.from_vec.result c.requires c.new-numbers.ensures.items
    c.in_ok-add_numbers.ensures c.in_ok-add_numbers-2.ensures c.in_order.ensures.ascending c.in_order.ensures.numbers
    c.from_vec.ensures
