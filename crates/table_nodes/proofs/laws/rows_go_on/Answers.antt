use Rattle.table_nodes.proofs.RowLemmas.{rows_more}
use Rattle.table_nodes.proofs.laws.rows_go_on.Goals as goal

pub returns : goal.returns
returns c = λ x u nodes rows v first kept known new sorted are on. rows_more x u nodes rows v first kept known new sorted are on
