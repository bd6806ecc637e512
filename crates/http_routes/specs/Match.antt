-- What the router of `matchit` found in a path: a route, and its parts by their names.
use Rattle.std.specs.Prelude.{ℕ, List, Option, Some, None, option_map, codes}
use Rattle.matchit.specs.Params.{walk, named}
use Rattle.matchit.specs.declared.params.Params.{Params}
use Rattle.http_routes.specs.Routes.{Found, FoundBugs, FoundControl, FoundBranches}
use Rattle.http_routes.specs.Routes.{FoundBug, FoundList}
use Rattle.http_routes.specs.declared.router.Route.{Route}
use Rattle.http_routes.specs.declared.router.Route.TheVariants.{Bugs, Control, Branches, Bug}
use Rattle.http_routes.specs.declared.router.Route.TheVariants.{List as ListRoute}

-- the parts that were found, each under its name
abbrev pub parts_of : Params → List (List ℕ × List ℕ)
parts_of params = walk params.pattern.now params.text.now params.path.now params.names.now 0 0

-- a list's parts, where both are there
abbrev pub list_with : Option (List ℕ) → Option (List ℕ) → Option Found
list_with (Some name) (Some version) = Some (FoundList name version)
list_with _ _ = None

-- a route with its parts, where all are there
abbrev pub found_with : Route → List (List ℕ × List ℕ) → Option Found
found_with Bugs parts = Some FoundBugs
found_with Control parts = Some FoundControl
found_with Branches parts = Some FoundBranches
found_with Bug parts = option_map FoundBug (named (codes "n") parts)
found_with ListRoute parts =
    list_with (named (codes "package") parts) (named (codes "version") parts)
