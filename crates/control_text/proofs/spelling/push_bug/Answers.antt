use Rattle.std.proofs.Common.{rules}
use Rattle.control_text.proofs.spelling.push_bug.Goals as goal

pub returns-in-Number : goal.returns-in-Number
returns-in-Number c = search rules
