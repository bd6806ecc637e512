use Rattle.std.proofs.Common.{rules}
use Rattle.control_parser.proofs.shapes.without_src.Goals as goal

pub returns : goal.returns
returns c = search rules
