-- A route that can be added to others.
use Rattle.std.specs.Prelude.{◌≡◌, None, Result, Ok, Err}
use Rattle.matchit.specs.Route.{Scan, parse_route}
use Rattle.matchit.specs.Router.{nearest}
use Rattle.matchit.specs.declared.error.InsertError.{InsertError}
use Rattle.http_routes.specs.declared.router.Route.{Route}
use Rattle.http_routes.specs.Rows.{route_text, Routes}

-- the text reads well, and no route of these conflicts with it
abbrev pub IsFreeAt : Result Scan InsertError → Routes → Type 0
IsFreeAt (Ok text) rows = nearest text.pattern rows ≡ None
IsFreeAt (Err error) rows = ⊥

abbrev pub IsFree : Route → Routes → Type 0
IsFree route rows = IsFreeAt (parse_route (route_text route)) rows
