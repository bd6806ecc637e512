use Rattle.std.proofs.Common.{rules}
use Rattle.store_contract.proofs.outcomes_so_far.make_room.Goals as goal

pub returns-clause-text : goal.returns-clause-text
returns-clause-text c = search rules
