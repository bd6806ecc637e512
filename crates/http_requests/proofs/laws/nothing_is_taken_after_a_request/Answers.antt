use Rattle.http_requests.proofs.TakenLemmas.{head_alone, wrong_alone, body_then}
use Rattle.http_requests.proofs.laws.nothing_is_taken_after_a_request.Goals as goal

pub returns-clause-head : goal.returns-clause-head
returns-clause-head c = head_alone

pub returns-clause-wrong : goal.returns-clause-wrong
returns-clause-wrong c = wrong_alone

pub returns-clause-body : goal.returns-clause-body
returns-clause-body c = body_then
