use Rattle.std.proofs.Common.{rules}
use Rattle.store_sets.proofs.places.image_of.Goals as goal

pub returns-in-After-2 : goal.returns-in-After-2
returns-in-After-2 c = search rules
