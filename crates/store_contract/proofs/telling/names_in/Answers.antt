use Rattle.std.proofs.Common.{rules}
use Rattle.store_contract.proofs.telling.names_in.Goals as goal

pub returns-in-Clone : goal.returns-in-Clone
returns-in-Clone c = search rules
