use Rattle.std.proofs.Common.{length}
use Rattle.table_reads.proofs.known.KnownSets.+follow_each.Given as goal

abbrev pub decreases-follow_each : goal.decreases-follow_each
decreases-follow_each l = length l.images.now
