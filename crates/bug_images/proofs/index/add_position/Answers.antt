use Rattle.std.proofs.Common.{rules}
use Rattle.bug_images.proofs.index.add_position.Goals as goal

pub returns-in_ok-insert : goal.returns-in_ok-insert
returns-in_ok-insert c = search rules
