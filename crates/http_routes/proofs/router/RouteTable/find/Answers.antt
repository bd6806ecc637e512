use Rattle.http_routes.proofs.TableLemmas.{has_one, has_none}
use Rattle.http_routes.proofs.router.RouteTable.find.Goals as goal

pub returns-clause-has : goal.returns-clause-has
returns-clause-has c = has_one c.args.path.now c.found_in.result c.found_in.ensures

pub returns-clause-none : goal.returns-clause-none
returns-clause-none c = has_none c.args.path.now c.found_in.result c.found_in.ensures
