use Rattle.std.proofs.Common.{rules}
use Rattle.control_parser.proofs.severity.read_severity.Goals as goal

pub returns-in-None : goal.returns-in-None
returns-in-None c = search rules
