use Rattle.std.proofs.Common.{rules}
use Rattle.bug_record.proofs.tag.Tag.name.Goals as goal

pub returns-in-Moreinfo : goal.returns-in-Moreinfo
returns-in-Moreinfo c = search rules
