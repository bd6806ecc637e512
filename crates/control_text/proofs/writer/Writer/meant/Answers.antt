use Rattle.std.proofs.Common.{rules}
use Rattle.control_text.proofs.writer.Writer.meant.Goals as goal

pub returns-then-is_it : goal.returns-then-is_it
returns-then-is_it c = search rules
