use Rattle.std.proofs.Common.{rules}
use Rattle.desk_text.specs.Texts.{said_of_bug}
use Rattle.desk_text.proofs.texts.append_of_bug.Goals as goal

pub returns-clause-ok : goal.returns-clause-ok
unfolding said_of_bug
returns-clause-ok c = search rules
