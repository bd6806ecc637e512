use Rattle.std.proofs.Common.{◌∙◌}
use Rattle.std.proofs.lemmas.List.Filters.{dedup_is}
use Rattle.bug_images.proofs.SortedLemmas.{has-sorted, ascending-sorted}
use Rattle.bug_images.proofs.sorted.in_order.Goals as goal

pub returns-clause-ascending : goal.returns-clause-ascending
returns-clause-ascending c =
    ascending-sorted _ _ c.sort_unstable.ensures.sorted (c.shrink_to_fit.ensures.items ∙ dedup_is _ _ _ c.dedup.ensures.filtered)

pub returns-clause-numbers : goal.returns-clause-numbers
returns-clause-numbers c =
    has-sorted _ _ _ c.sort_unstable.ensures.permutation
    (c.shrink_to_fit.ensures.items ∙ dedup_is _ _ _ c.dedup.ensures.filtered)
