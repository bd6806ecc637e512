use Rattle.std.proofs.Common.{◌++◌, sym, subst}
use Rattle.std.proofs.lemmas.List.Sorted.{IsPermutation-append_right}
use Rattle.std.specs.List.Sorted.{IsPermutation}
use Rattle.ancestry.proofs.whole.put_source.Goals as goal

pub returns : goal.returns
returns c =
    let links = c.args.links.now.items in
    let group = c.args.group.items in
    subst (IsPermutation (links ++ group)) (sym c.in_ok-append.ensures.items)
    (IsPermutation-append_right links group c.sort_by.new.self.items c.in_ok-sort_by.ensures.permutation)
