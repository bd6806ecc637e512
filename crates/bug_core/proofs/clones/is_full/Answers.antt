use Rattle.std.proofs.Common.{rules}
use Rattle.bug_core.proofs.clones.is_full.Goals as goal

pub returns-else-asked-gt-AFTER_LARGEST : goal.returns-else-asked-gt-AFTER_LARGEST
returns-else-asked-gt-AFTER_LARGEST c = search rules
