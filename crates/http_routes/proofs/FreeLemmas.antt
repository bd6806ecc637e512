-- Each of the five routes is free among those before it.
use Rattle.std.proofs.Common.{[], refl}
use Rattle.matchit.proofs.OnLiterals.{matchit_on_literals}
use Rattle.http_routes.specs.Rows.{with_route}
use Rattle.http_routes.specs.Free.{IsFree}
use Rattle.http_routes.specs.declared.router.Route.TheVariants.{Bugs, Control, Branches, Bug, List as ListRoute}

pub branches_free : IsFree Branches []
unfolding matchit_on_literals
branches_free = refl

pub control_free : IsFree Control (with_route Branches [])
unfolding matchit_on_literals
control_free = refl

pub bug_free : IsFree Bug (with_route Control (with_route Branches []))
unfolding matchit_on_literals
bug_free = refl

pub list_free : IsFree ListRoute (with_route Bug (with_route Control (with_route Branches [])))
unfolding matchit_on_literals
list_free = refl

pub bugs_free : IsFree Bugs (with_route ListRoute (with_route Bug (with_route Control (with_route Branches []))))
unfolding matchit_on_literals
bugs_free = refl
