use Rattle.std.proofs.Common.{◌≡◌, drop}
use Rattle.store_sets.specs.Sums.{name_sum, with_bytes}
use Rattle.store_sets.proofs.summed_image.name_sum.Given as goal

abbrev pub invariant-loop-byte : goal.invariant-loop-byte
invariant-loop-byte l = with_bytes l.sum (drop l.byte-index l.byte-items) ≡ name_sum l.name
