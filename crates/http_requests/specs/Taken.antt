-- What serving one connection takes from its reader.
-- This project's own rule.
use Rattle.std.specs.Prelude.{ℕ, ◌⊎◌, List, Option, Some, None, map, if◌then◌else◌}
use Rattle.std.specs.Io.KnownBytes.{Keeps}
use Rattle.std.specs.Str.{bytes_eq}
use Rattle.httparse.specs.Grammar.{RequestHead}
use Rattle.httparse.specs.Spans.{name_and_value}
use Rattle.http_routes.specs.Routes.{Found, route, method}
use Rattle.http_routes.specs.Parts.{path_of}
use Rattle.http_routes.specs.declared.router.Route.{Route}
use Rattle.http_routes.specs.declared.router.Route.TheVariants.{Bugs, Control, Branches, Bug}
use Rattle.http_routes.specs.declared.router.Route.TheVariants.{List as ListRoute}
use Rattle.http_bytes.specs.Head.{BeginsWithHead}
use Rattle.http_bytes.specs.Headers.{body_length}
use Rattle.http_bytes.specs.Body.{size_told, TakesBody}
use Rattle.http_bytes.specs.Found.{GaveHead}
use Rattle.http_requests.specs.Asking.{route_of}

-- the size of the body that is read at a route by its own method: none at a GET, nor where the
-- headers refuse it
abbrev pub size_at : Route → List (List ℕ × List ℕ) → Option ℕ
size_at Bug headers = None
size_at ListRoute headers = None
size_at Bugs headers = size_told (body_length headers)
size_at Control headers = size_told (body_length headers)
size_at Branches headers = size_told (body_length headers)

-- none is read where there is no route, or the route has another method
abbrev pub size_on : Option Found → List ℕ → List (List ℕ × List ℕ) → Option ℕ
size_on None method_asked headers = None
size_on (Some found) method_asked headers =
    if bytes_eq method_asked (method (route found)) then size_at (route found) headers else None

-- the size of the body that is read where a target is asked by this method
abbrev pub size_by : List ℕ → List ℕ → List (List ℕ × List ℕ) → Option ℕ
size_by method_asked target headers = size_on (route_of (path_of target)) method_asked headers

-- the size of the body that is read of a request with this head, if one is
abbrev pub size_of : RequestHead → Option ℕ
size_of head = size_by head.method head.target (map name_and_value head.fields)

-- what was taken for the head is a head and some bytes behind it, and then no byte after its body
-- was taken
pub record TakesBehind (taken : List ℕ) (mid new : Option (List ℕ)) : Type 0 where
  pub head : RequestHead
  pub behind : List ℕ
  pub begins : BeginsWithHead taken head behind
  pub body : TakesBody (size_of head) behind mid new

-- What serving one connection takes from its reader: the bytes for its head, and then nothing, or
-- what its head asks for.
pub record TakesRequest (old new : Option (List ℕ)) : Type 0 where
  pub taken : List ℕ
  pub mid : Option (List ℕ)
  pub gave : GaveHead old mid taken
  pub behind : Keeps mid new ⊎ TakesBehind taken mid new

-- the reader gave bytes for a head, and none after them
abbrev pub TakesHeadAlone : Option (List ℕ) → Option (List ℕ) → Type 0
TakesHeadAlone old new = (taken : List ℕ) × GaveHead old new taken
