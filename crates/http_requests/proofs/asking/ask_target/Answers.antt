use Rattle.std.proofs.Common.{◌∙◌}
use Rattle.http_requests.proofs.RequestLemmas.{no_route, other_method}
use Rattle.http_bytes.proofs.HadLemmas.{had_any}
use Rattle.http_requests.proofs.asking.ask_target.Goals as goal

pub returns-in_default-clause-asks : goal.returns-in_default-clause-asks
returns-in_default-clause-asks g c =
    let found = c.route_of.ensures in
    had_any (g.R.Read.remaining c.args.reader.now) _ (λ more. no_route c.args.method_asked.now c.args.target.now _ _
    c.path.result.now c.route_of.result c.path.ensures found c.in_default.is)

pub returns-then-ne-clause-asks : goal.returns-then-ne-clause-asks
returns-then-ne-clause-asks g c =
    let found = c.route_of.ensures in
    had_any (g.R.Read.remaining c.args.reader.now) _ (λ more. other_method c.args.method_asked.now c.args.target.now _ _
    c.path.result.now c.route_of.result c.in-Some.found c.path.ensures found c.in-Some.is
    c.route-route.result c.route-route.ensures c.as_bytes.result.now (c.as_bytes.ensures.value ∙ c.method.ensures) c.if-ne.ensures)
