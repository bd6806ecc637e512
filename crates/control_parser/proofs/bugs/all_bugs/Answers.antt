use Rattle.std.proofs.Common.{rules}
use Rattle.control_parser.proofs.bugs.all_bugs.Goals as goal

pub returns-in_err-bug : goal.returns-in_err-bug
returns-in_err-bug c = search rules

pub returns-in_err-push : goal.returns-in_err-push
returns-in_err-push c = search rules
