use Rattle.std.proofs.Common.{rules}
use Rattle.control_text.proofs.spelling.reassign.Goals as goal

pub returns-in_err-line : goal.returns-in_err-line
returns-in_err-line c = search rules
