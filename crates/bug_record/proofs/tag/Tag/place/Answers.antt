use Rattle.std.proofs.Common.{rules}
use Rattle.bug_record.proofs.tag.Tag.place.Goals as goal

pub returns-in-Pending : goal.returns-in-Pending
returns-in-Pending c = search rules
