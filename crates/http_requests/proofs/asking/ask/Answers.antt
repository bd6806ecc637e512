use Rattle.std.proofs.Common.{rules}
use Rattle.http_requests.proofs.asking.ask.Goals as goal

pub returns-clause-asks : goal.returns-clause-asks
returns-clause-asks g c = search rules
