use Rattle.std.proofs.Common.{◌∙◌}
use Rattle.base_sequences.proofs.OrderedLemmas.{has-key}
use Rattle.bug_images.proofs.refusals.is_in.Goals as goal

pub returns : goal.returns
returns c = c.contains.ensures ∙ has-key c.args.set.now.keys c.args.number
