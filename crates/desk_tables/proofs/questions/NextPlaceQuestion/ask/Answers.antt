use Rattle.table_schema.proofs.Exports.{◌∙◌}
use Rattle.table_writes.proofs.PlaceLemmas.{place_is}
use Rattle.desk_tables.proofs.TransactionLemmas.{asks_read}
use Rattle.desk_tables.proofs.questions.NextPlaceQuestion.ask.Goals as goal

pub returns-clause-asks : goal.returns-clause-asks
returns-clause-asks g c =
    asks_read c.read_next_place.result _ _ _ _ _ _ (λ k fits. tt) (λ k place p fits. p ∙ place_is k fits c.args.self.now.id.now) c.read_next_place.ensures.reads c.read_next_place.ensures.serves
