use Rattle.desk_tables.proofs.TransactionLemmas.{asks_read}
use Rattle.desk_tables.proofs.questions.NextQuestion.ask.Goals as goal

pub returns-clause-asks : goal.returns-clause-asks
returns-clause-asks g c = asks_read c.read_next.result _ _ _ _ _ _ (λ k fits. tt) (λ k a p fits. p) c.read_next.ensures.reads c.read_next.ensures.serves
