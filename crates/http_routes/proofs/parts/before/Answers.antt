use Rattle.http_routes.proofs.PartLemmas.{before_first-at, before_first-none}
use Rattle.http_routes.proofs.parts.before.Goals as goal

pub returns-in-Some : goal.returns-in-Some
returns-in-Some c = before_first-at _ _ _ c.in-Some.ensures

pub returns-in-None : goal.returns-in-None
returns-in-None c = before_first-none _ _ c.in-None.ensures
