use Rattle.std.proofs.Common.{rules}
use Rattle.control_parser.proofs.few_words.two_words.Goals as goal

pub returns : goal.returns
returns c = search rules
