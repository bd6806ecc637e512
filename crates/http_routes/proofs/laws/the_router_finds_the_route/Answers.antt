use Rattle.http_routes.proofs.RowLemmas.{text_of, search_routes}
use Rattle.http_routes.proofs.laws.the_router_finds_the_route.Goals as goal

pub returns : goal.returns
returns c path bytes = search_routes path (text_of path bytes)
