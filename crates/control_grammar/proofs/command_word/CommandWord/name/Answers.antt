use Rattle.std.proofs.Common.{rules}
use Rattle.control_grammar.proofs.command_word.CommandWord.name.Goals as goal

pub returns-in-NotFixed : goal.returns-in-NotFixed
returns-in-NotFixed c = search rules
