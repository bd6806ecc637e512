use Rattle.std.proofs.Common.{rules}
use Rattle.desk_text.proofs.answers.no_bug_answer.Goals as goal

pub returns : goal.returns
returns c = search rules
