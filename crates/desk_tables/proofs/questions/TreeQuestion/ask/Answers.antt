use Rattle.desk_tables.proofs.TransactionLemmas.{asks_read}
use Rattle.desk_tables.proofs.questions.TreeQuestion.ask.Goals as goal

pub returns-clause-asks : goal.returns-clause-asks
returns-clause-asks g c = asks_read c.read_family.result _ _ _ _ _ _ (λ k fits. fits.sound.forest) (λ k a p fits. p fits.sound.forest) c.read_family.ensures.acts c.read_family.ensures.serves
