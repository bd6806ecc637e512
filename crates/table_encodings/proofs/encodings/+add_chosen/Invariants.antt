use Rattle.std.proofs.Common.{length}
use Rattle.table_encodings.proofs.encodings.+add_chosen.Given as goal

abbrev pub decreases-add_chosen : goal.decreases-add_chosen
decreases-add_chosen l = length l.all.now
