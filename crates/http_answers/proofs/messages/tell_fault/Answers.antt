use Rattle.std.proofs.Common.{rules}
use Rattle.http_answers.proofs.messages.tell_fault.Goals as goal

pub returns-in-Ok-message_json-clause-is : goal.returns-in-Ok-message_json-clause-is
returns-in-Ok-message_json-clause-is c = search rules

pub returns-then-eq-clause-is : goal.returns-then-eq-clause-is
returns-then-eq-clause-is c = search rules

pub returns-in-Ok-message_json-clause-told : goal.returns-in-Ok-message_json-clause-told
returns-in-Ok-message_json-clause-told c = search rules
