use Rattle.http_bytes.proofs.HeadLemmas.{one_head}
use Rattle.http_requests.specs.Asking.{asked_of}
use Rattle.http_requests.proofs.laws.an_input_has_one_request.Goals as goal

pub returns : goal.returns
returns c input head other rest left a b =
    let one = one_head input head other rest left a b in
    λ i. asked_of (one.0 i) (one.1 i)
