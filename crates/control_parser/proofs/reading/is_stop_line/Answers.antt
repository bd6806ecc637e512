use Rattle.std.proofs.Common.{rules}
use Rattle.control_parser.proofs.reading.is_stop_line.Goals as goal

pub returns-then-is_word : goal.returns-then-is_word
returns-then-is_word c = search rules
