use Rattle.http_routes.proofs.TableLemmas.{has_found, only_found}
use Rattle.http_routes.proofs.laws.a_path_has_one_route.Goals as goal

pub returns-clause-found : goal.returns-clause-found
returns-clause-found c = has_found

pub returns-clause-only : goal.returns-clause-only
returns-clause-only c = only_found
