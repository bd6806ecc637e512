use Rattle.table_nodes.proofs.FirstMarkLemmas.{small_key}
use Rattle.table_nodes.proofs.laws.marked_sets_are_there.Goals as goal

pub returns : goal.returns
returns c = small_key
