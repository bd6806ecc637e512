use Rattle.std.proofs.Common.{rules}
use Rattle.bug_images.proofs.named.others_may_be_archived.Goals as goal

pub returns-in-Block : goal.returns-in-Block
returns-in-Block c = search rules

pub returns-in-Block-2 : goal.returns-in-Block-2
returns-in-Block-2 c = search rules
