use Rattle.std.proofs.Common.{rules}
use Rattle.http_requests.proofs.bodies.posted.Goals as goal

pub returns-else-is_good_asked-clause-asks : goal.returns-else-is_good_asked-clause-asks
returns-else-is_good_asked-clause-asks c = search rules

pub returns-else-is_good_asked-clause-sender : goal.returns-else-is_good_asked-clause-sender
returns-else-is_good_asked-clause-sender c = tt
