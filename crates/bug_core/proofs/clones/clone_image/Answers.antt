use Rattle.std.proofs.Common.{rules}
use Rattle.bug_core.proofs.clones.clone_image.Goals as goal

pub returns : goal.returns
returns c = search rules
