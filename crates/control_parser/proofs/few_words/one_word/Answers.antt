use Rattle.std.proofs.Common.{rules}
use Rattle.control_parser.proofs.few_words.one_word.Goals as goal

pub returns : goal.returns
returns c = search rules
