use Rattle.table_nodes.proofs.FirstMarkLemmas.{goes_on}
use Rattle.table_nodes.proofs.laws.first_marks_go_on.Goals as goal

pub returns : goal.returns
returns c = λ found fixed ns v found_keys fixed_keys k p q. goes_on found fixed v ns found_keys fixed_keys k p q
