-- What the router of `matchit` holds: the five routes, each with its text, as it reads them.
use Rattle.std.specs.Prelude.{ℕ, List, [], Result, Ok, Err, codes}
use Rattle.matchit.specs.Rows.{RowsOf}
use Rattle.matchit.specs.Order.{placed}
use Rattle.matchit.specs.Route.{Scan, parse_route}
use Rattle.matchit.specs.Router.{RouteOf, route_from}
use Rattle.matchit.specs.declared.error.InsertError.{InsertError}
use Rattle.http_routes.specs.declared.router.Route.{Route}
use Rattle.http_routes.specs.declared.router.Route.TheVariants.{Bugs, Control, Branches, Bug}
use Rattle.http_routes.specs.declared.router.Route.TheVariants.{List as ListRoute}

-- the text of a route, with its parameters in braces
abbrev pub route_text : Route → List ℕ
route_text Bugs = codes "/bugs"
route_text Control = codes "/control"
route_text Branches = codes "/branches"
route_text Bug = codes "/bugs/{n}"
route_text ListRoute = codes "/list/{package}/{*version}"

-- the routes that a router has, each with its text as `matchit` reads it
abbrev pub Routes : Type 0
Routes = RowsOf (RouteOf Route)

abbrev pub placed_at : Result Scan InsertError → Route → Routes → Routes
placed_at (Ok text) route rows = placed (text.pattern, route_from text route) rows
placed_at (Err error) route rows = rows

-- these routes and one more
abbrev pub with_route : Route → Routes → Routes
with_route route rows = placed_at (parse_route (route_text route)) route rows

-- the five routes
unfoldable pub routes : Routes
routes =
    with_route Bugs
    (with_route ListRoute (with_route Bug (with_route Control (with_route Branches []))))
