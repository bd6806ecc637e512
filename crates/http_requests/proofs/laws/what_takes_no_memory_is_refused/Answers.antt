use Rattle.http_requests.proofs.MemoryLemmas.{of_refused, of_status, of_no_route}
use Rattle.http_requests.proofs.laws.what_takes_no_memory_is_refused.Goals as goal

pub returns-clause-refused : goal.returns-clause-refused
returns-clause-refused c = of_refused

pub returns-clause-statuses : goal.returns-clause-statuses
returns-clause-statuses c = of_status

pub returns-clause-no_route : goal.returns-clause-no_route
returns-clause-no_route c = of_no_route
