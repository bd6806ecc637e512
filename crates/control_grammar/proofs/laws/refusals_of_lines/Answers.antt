use Rattle.control_grammar.proofs.RefusalLemmas.{reading-of}
use Rattle.control_grammar.proofs.laws.refusals_of_lines.Goals as goal

pub returns : goal.returns
returns c = reading-of
