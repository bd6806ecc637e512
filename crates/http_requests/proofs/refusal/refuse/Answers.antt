use Rattle.std.proofs.Common.{rules}
use Rattle.http_requests.proofs.refusal.refuse.Goals as goal

pub returns-in-NotFound-clause-is : goal.returns-in-NotFound-clause-is
returns-in-NotFound-clause-is c = search rules
