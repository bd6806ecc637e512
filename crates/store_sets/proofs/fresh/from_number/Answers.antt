use Rattle.store_sets.proofs.FreshLemmas.{has_part}
use Rattle.store_sets.proofs.fresh.from_number.Goals as goal

pub returns-then-member-number : goal.returns-then-member-number
returns-then-member-number c = λ n. has_part c.args.members.now _ _ n
