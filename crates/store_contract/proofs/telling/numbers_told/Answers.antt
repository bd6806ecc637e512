use Rattle.std.proofs.Common.{rules}
use Rattle.store_contract.proofs.telling.numbers_told.Goals as goal

pub returns-in_err-push : goal.returns-in_err-push
returns-in_err-push c = search rules
