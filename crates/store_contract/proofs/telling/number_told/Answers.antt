use Rattle.std.proofs.Common.{rules}
use Rattle.store_contract.proofs.telling.number_told.Goals as goal

pub returns-in-Some : goal.returns-in-Some
returns-in-Some c = search rules
