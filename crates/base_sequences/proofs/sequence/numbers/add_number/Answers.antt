use Rattle.std.proofs.Common.{◌∙◌}
use Rattle.base_sequences.proofs.OrderedLemmas.{with_key}
use Rattle.base_sequences.proofs.sequence.numbers.add_number.Goals as goal

pub returns : goal.returns
returns c = c.in_ok-insert.ensures.keys ∙ with_key c.args.set.now.keys c.args.number
