use Rattle.std.proofs.Common.{rules}
use Rattle.control_parser.proofs.commands.read_command.Goals as goal

pub returns-in_ok-bug-in-NotFound : goal.returns-in_ok-bug-in-NotFound
returns-in_ok-bug-in-NotFound c = search rules
