-- The five routes of the desk, and which of them a path has, with its parts.
-- Which they are is this project's own rule.
use Rattle.std.specs.Prelude.{ℕ, ◌≡◌, ◌&&◌, Bool, true, false, not, IsTrue, codes}
use Rattle.std.specs.Prelude.{List, [], ◌∷◌, ◌++◌, Option, drop, length}
use Rattle.std.specs.List.{find, list_any, before_first, after_first}
use Rattle.std.specs.Str.{bytes_eq}
use Rattle.http_routes.specs.Parts.{is_slash}
use Rattle.http_routes.specs.declared.router.Route.{Route}
use Rattle.http_routes.specs.declared.router.Route.TheVariants.{Bugs, Control, Branches, Bug}
use Rattle.http_routes.specs.declared.router.Route.TheVariants.{List as ListRoute}

-- the one method of a route
abbrev pub method : Route → List ℕ
method Bugs = codes "POST"
method Control = codes "POST"
method Branches = codes "POST"
method Bug = codes "GET"
method ListRoute = codes "GET"

-- a route with the parts that stand in a path for its parameters, as they stand, not decoded
pub data Found : Type 0 where
  FoundBugs : Found
  FoundControl : Found
  FoundBranches : Found
  -- `{n}`
  FoundBug : List ℕ → Found
  -- `{package}` and `{*version}`
  FoundList : List ℕ → List ℕ → Found

abbrev pub route : Found → Route
route FoundBugs = Bugs
route FoundControl = Control
route FoundBranches = Branches
route (FoundBug number) = Bug
route (FoundList name version) = ListRoute

-- The table of the routes: the path of each, with its parts in their places.
abbrev pub path_with : Found → List ℕ
path_with FoundBugs = codes "/bugs"
path_with FoundControl = codes "/control"
path_with FoundBranches = codes "/branches"
path_with (FoundBug number) = codes "/bugs/" ++ number
path_with (FoundList name version) = codes "/list/" ++ name ++ codes "/" ++ version

-- one byte or more
abbrev pub has_bytes : List ℕ → Bool
has_bytes [] = false
has_bytes (b ∷ rest) = true

-- one byte or more without a slash
abbrev pub is_part : List ℕ → Bool
is_part part = has_bytes part && not (list_any is_slash part)

-- what a route's parts may be; only a version may have slashes
abbrev pub has_good_parts : Found → Bool
has_good_parts FoundBugs = true
has_good_parts FoundControl = true
has_good_parts FoundBranches = true
has_good_parts (FoundBug number) = is_part number
has_good_parts (FoundList name version) = is_part name && has_bytes version

-- the path has this route of the table, with these parts
abbrev pub HasRoute : List ℕ → Found → Type 0
HasRoute path found = (path ≡ path_with found) × IsTrue (has_good_parts found)

-- the path has no route of the table
abbrev pub HasNoRoute : List ℕ → Type 0
HasNoRoute path = (found : Found) → HasRoute path found → ⊥

-- that a path has this route, as a test
abbrev pub has_route : List ℕ → Found → Bool
has_route path found = bytes_eq path (path_with found) && has_good_parts found

-- Each route, with the parts that a path would have of it.
-- The law `a_path_has_one_route` says that no others have to be tried.
abbrev pub routes_to_try : List ℕ → List Found
routes_to_try path =
    FoundBugs ∷ FoundControl ∷ FoundBranches ∷ FoundBug (drop (length (codes "/bugs/")) path)
    ∷ (let parts = drop (length (codes "/list/")) path in
    FoundList (before_first is_slash parts) (after_first is_slash parts))
    ∷ []

-- the route that a path has, with its parts, if it has one
unfoldable pub route_at : List ℕ → Option Found
route_at path = find (has_route path) (routes_to_try path)
