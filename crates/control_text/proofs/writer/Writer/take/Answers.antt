use Rattle.std.proofs.Common.{rules}
use Rattle.control_text.proofs.writer.Writer.take.Goals as goal

pub returns-clause-ok : goal.returns-clause-ok
returns-clause-ok c = search rules
