use Rattle.std.proofs.Common.{rules}
use Rattle.control_parser.proofs.texts.limited_text.Goals as goal

pub returns : goal.returns
returns c = search rules
