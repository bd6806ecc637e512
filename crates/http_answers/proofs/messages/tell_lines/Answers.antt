use Rattle.http_answers.proofs.MessageLemmas.{told_end}
use Rattle.http_answers.proofs.messages.tell_lines.Goals as goal

pub returns-in_default-clause-is : goal.returns-in_default-clause-is
returns-in_default-clause-is c =
    told_end c.args.received.now.outcomes c.args.received.now.end _ c.tell_end.result c.in_default.not-Store c.tell_end.ensures.is
