use Rattle.debver.proofs.OrderLaws.{total_cmp_total, total_ties_exactly}
use Rattle.debver.proofs.laws.total_laws.Goals as goal

pub returns-clause-laws : goal.returns-clause-laws
returns-clause-laws c = total_cmp_total

pub returns-clause-equal : goal.returns-clause-equal
returns-clause-equal c = total_ties_exactly
