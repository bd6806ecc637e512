use Rattle.std.proofs.Common.{refl}
use Rattle.http_requests.proofs.RequestLemmas.{body_asked, body_unasked, length_taken, fault_taken}
use Rattle.http_requests.proofs.asking.ask_with_body.Goals as goal

pub returns-in_err-body-clause-asks : goal.returns-in_err-body-clause-asks
returns-in_err-body-clause-asks g c =
    body_unasked c.from_residual.result c.in_err-body.field-0.0 (g.R.Read.remaining c.args.reader.now) c.args.route _
    c.from_residual.ensures.1 c.in_err-body.ensures.body

pub returns-clause-asks : goal.returns-clause-asks
returns-clause-asks g c =
    body_asked c.ask_body.result (g.R.Read.remaining c.args.reader.now) c.args.route c.in_ok-body.body.items
    c.as_slice.result.now _ c.in_ok-body.ensures.body c.as_slice.ensures.value c.ask_body.ensures.asks

pub returns-in_err-body-clause-memory : goal.returns-in_err-body-clause-memory
returns-in_err-body-clause-memory g c is =
    fault_taken _ _ _ c.in_err-body.field-0.0 c.from_residual.result refl c.from_residual.ensures.1 is c.in_err-body.ensures.refused

pub returns-clause-memory : goal.returns-clause-memory
returns-clause-memory g c is =
    length_taken _ _ _ c.in_ok-body.ensures.refused (λ refusal e. cc)
