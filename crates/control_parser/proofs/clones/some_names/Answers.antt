use Rattle.std.proofs.Common.{rules}
use Rattle.control_parser.proofs.clones.some_names.Goals as goal

pub returns-then-is_none : goal.returns-then-is_none
returns-then-is_none c = search rules
