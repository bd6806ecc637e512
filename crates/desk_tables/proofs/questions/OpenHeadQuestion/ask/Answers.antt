use Rattle.desk_tables.proofs.TransactionLemmas.{asks_read}
use Rattle.desk_tables.proofs.questions.OpenHeadQuestion.ask.Goals as goal

pub returns-clause-asks : goal.returns-clause-asks
returns-clause-asks g c = asks_read c.read_open_head.result _ _ _ _ _ _ (λ k fits. fits) (λ k a p. p) c.read_open_head.ensures.acts c.read_open_head.ensures.serves
