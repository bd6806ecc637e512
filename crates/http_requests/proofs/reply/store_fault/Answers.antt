use Rattle.std.proofs.Common.{rules}
use Rattle.http_requests.proofs.reply.store_fault.Goals as goal

pub returns-clause-is : goal.returns-clause-is
returns-clause-is c = search rules
