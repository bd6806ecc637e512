use Rattle.std.proofs.Common.{rules}
use Rattle.debver.proofs.text.Text.of.Goals as goal

pub returns : goal.returns
returns c = search rules
