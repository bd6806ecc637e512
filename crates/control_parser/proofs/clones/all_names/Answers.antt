use Rattle.std.proofs.Common.{rules}
use Rattle.control_parser.proofs.clones.all_names.Goals as goal

pub returns-in_err-name : goal.returns-in_err-name
returns-in_err-name c = search rules

pub returns-in_err-push : goal.returns-in_err-push
returns-in_err-push c = search rules
