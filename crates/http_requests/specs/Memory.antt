-- Whether reading what a request asks takes memory, once the table of the routes is made.
-- A request that takes none is refused by a fixed text: it has no route, or another method, or its
-- length is not taken.
-- This project's own rule.
use Rattle.std.specs.Prelude.{ℕ, ◌≡◌, ◌⊎◌, ◌&&◌, Bool, true, false, List, map, Option, Some, None, is_ok}
use Rattle.std.specs.Str.{bytes_eq}
use Rattle.httparse.specs.Grammar.{RequestHead}
use Rattle.httparse.specs.Spans.{name_and_value}
use Rattle.http_routes.specs.Routes.{Found, route, method}
use Rattle.http_routes.specs.Parts.{path_of}
use Rattle.http_routes.specs.declared.router.Route.{Route}
use Rattle.http_routes.specs.declared.router.Route.TheVariants.{Bugs, Control, Branches, Bug}
use Rattle.http_routes.specs.declared.router.Route.TheVariants.{List as ListRoute}
use Rattle.http_bytes.specs.Headers.{body_length}
use Rattle.http_requests.specs.Asking.{route_of}

-- at a route by its own method: at a GET for the parts of its path, at a POST for a body whose
-- length is taken, and for what it holds
abbrev pub takes_memory_at : Route → List (List ℕ × List ℕ) → Bool
takes_memory_at Bug headers = true
takes_memory_at ListRoute headers = true
takes_memory_at Bugs headers = is_ok (body_length headers)
takes_memory_at Control headers = is_ok (body_length headers)
takes_memory_at Branches headers = is_ok (body_length headers)

-- none where there is no route, or the route has another method
abbrev pub takes_memory_on : Option Found → List ℕ → List (List ℕ × List ℕ) → Bool
takes_memory_on None method_asked headers = false
takes_memory_on (Some found) method_asked headers =
    bytes_eq method_asked (method (route found)) && takes_memory_at (route found) headers

-- where a target is asked by this method, with these headers
abbrev pub takes_memory_by : List ℕ → List ℕ → List (List ℕ × List ℕ) → Bool
takes_memory_by method_asked target headers =
    takes_memory_on (route_of (path_of target)) method_asked headers

-- where the request has this head
abbrev pub takes_memory : RequestHead → Bool
takes_memory head = takes_memory_by head.method head.target (map name_and_value head.fields)

-- the statuses of refusals that take no memory, whatever the request; of those with 404 and 400
-- some take none
abbrev pub IsHeadStatus : ℕ → Type 0
IsHeadStatus status = (status ≡ 405) ⊎ (status ≡ 411) ⊎ (status ≡ 413) ⊎ (status ≡ 501)
