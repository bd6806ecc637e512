use Rattle.std.proofs.Common.{refl}
use Rattle.http_routes.specs.Routes.{route_at}
use Rattle.http_routes.proofs.laws.paths_have_these_routes.Goals as goal

pub returns-clause-fixed : goal.returns-clause-fixed
unfolding route_at
returns-clause-fixed c = (refl, refl, refl)

pub returns-clause-no_fixed : goal.returns-clause-no_fixed
unfolding route_at
returns-clause-no_fixed c = (refl, refl, refl, refl, refl)

pub returns-clause-no_bug : goal.returns-clause-no_bug
unfolding route_at
returns-clause-no_bug c = (refl, refl, refl, refl)

pub returns-clause-no_list : goal.returns-clause-no_list
unfolding route_at
returns-clause-no_list c = (refl, refl, refl, refl)

pub returns-clause-bug : goal.returns-clause-bug
unfolding route_at
returns-clause-bug c = refl

pub returns-clause-list : goal.returns-clause-list
unfolding route_at
returns-clause-list c = (refl, refl)
