use Rattle.std.proofs.Common.{rules}
use Rattle.store_sets.proofs.places.only_place.Goals as goal

pub returns-in-len1-up : goal.returns-in-len1-up
returns-in-len1-up c = search rules
