use Rattle.debver.proofs.CutLaws.{cut_so}
use Rattle.debver.proofs.parts.cut.Goals as goal

pub invariant_of-result : goal.invariant_of-result
invariant_of-result c =
    let same = (cut_so _ _ _ _ _ c.at_first_colon.ensures.whole c.at_first_colon.ensures.first c.at_last_hyphen.ensures.whole
    c.at_last_hyphen.ensures.last) in
    (same, c.requires)
