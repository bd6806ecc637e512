use Rattle.message_receiving.specs.declared.once.OnceFault.TheVariants.{BadId, Reused, Store}
use Rattle.desk_run.proofs.SentLemmas.{resumed_sent}
use Rattle.desk_run.proofs.laws.a_sent_message_takes_its_next_lines.Goals as goal

pub returns-clause-sent : goal.returns-clause-sent
returns-clause-sent c id sender message received d e k l good once =
    resumed_sent id sender message received.outcomes received.end d e k l good once.1 once.2 once.3

pub returns-clause-refused : goal.returns-clause-refused
returns-clause-refused c id sender message BadId d e k l once = (once.1, once.2)
returns-clause-refused c id sender message Reused d e k l once = (once.2, once.3)
returns-clause-refused c id sender message (Store fault) d e k l once = (once.1, once.2)
