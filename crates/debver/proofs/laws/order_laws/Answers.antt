use Rattle.std.proofs.lemmas.Cmp.{tied_itself, upto}
use Rattle.debver.specs.Versions.{text_cmp}
use Rattle.debver.proofs.OrderLaws.{text_cmp_total}
use Rattle.debver.proofs.NotGreater.{not_greater, no_greater, one_of}
use Rattle.debver.proofs.laws.order_laws.Goals as goal

pub returns-clause-laws : goal.returns-clause-laws
returns-clause-laws c = text_cmp_total

pub returns-clause-reflexive : goal.returns-clause-reflexive
returns-clause-reflexive c = λ t. tied_itself text_cmp_total t

pub returns-clause-transitive : goal.returns-clause-transitive
returns-clause-transitive c =
    λ s t u p q. no_greater (text_cmp s u)
    (upto text_cmp_total s t u (not_greater (text_cmp s t) p) (not_greater (text_cmp t u) q))

pub returns-clause-total : goal.returns-clause-total
returns-clause-total c = λ s t. one_of (text_cmp s t) (text_cmp t s) (text_cmp_total.antisymm s t)
