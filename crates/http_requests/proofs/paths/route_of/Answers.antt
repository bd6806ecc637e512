use Rattle.http_requests.proofs.RequestLemmas.{route_found, route_of-bytes}
use Rattle.http_requests.proofs.paths.route_of.Goals as goal

pub returns-in-Ok : goal.returns-in-Ok
returns-in-Ok c =
    route_found c.args.path.now c.in-Ok.path.now c.find.result c.in-Ok.ensures.cases.0 c.in-Ok.ensures.cases.1
    c.find.ensures.route

pub returns-in-Err : goal.returns-in-Err
returns-in-Err c = route_of-bytes c.args.path.now c.in-Err.ensures.cases.0
