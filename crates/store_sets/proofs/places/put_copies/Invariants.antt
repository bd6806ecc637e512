use Rattle.std.proofs.Common.{vec_len}
use Rattle.store_sets.proofs.PlaceLemmas.{IsPutting}
use Rattle.store_sets.proofs.places.put_copies.Given as goal

abbrev pub invariant-loop-image : goal.invariant-loop-image
invariant-loop-image l = IsPutting l.fn.bugs l.fn.images.items l.bugs l.images.items

abbrev pub decreases-loop-image : goal.decreases-loop-image
decreases-loop-image l = vec_len l.images
