use Rattle.std.proofs.Common.{rules}
use Rattle.store_contract.proofs.refusals.refusal_meant.Goals as goal

pub returns-in-NoBug : goal.returns-in-NoBug
returns-in-NoBug c = search rules
