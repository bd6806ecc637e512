use Rattle.std.proofs.Common.{flat_map, vec_items, subst}
use Rattle.std.proofs.lemmas.List.Sorted.{IsPermutation-trans}
use Rattle.std.proofs.lemmas.Result.{IfOk-weaker}
use Rattle.std.specs.List.Sorted.{IsPermutation}
use Rattle.ancestry.proofs.GroupLemmas.{joined_moved}
use Rattle.ancestry.proofs.whole.in_text_order.Goals as goal

pub returns : goal.returns
returns c =
    let groups = c.in_ok-groups.groups.items in
    let all = flat_map vec_items c.sort_by.new.self.items in
    let moved = joined_moved vec_items groups c.sort_by.new.self.items c.in_ok-sort_by.ensures.permutation in
    IfOk-weaker c.joined.result (λ made. IsPermutation all made.items) (λ made. IsPermutation c.args.links.items made.items)
    (λ made same. IsPermutation-trans c.args.links.items all made.items (subst (λ ls. IsPermutation ls all) c.in_ok-groups.ensures moved) same)
    c.joined.ensures
