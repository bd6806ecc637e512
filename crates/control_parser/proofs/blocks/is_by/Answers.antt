use Rattle.std.proofs.Common.{rules}
use Rattle.control_parser.proofs.blocks.is_by.Goals as goal

pub returns-else-is_word : goal.returns-else-is_word
returns-else-is_word c = search rules
