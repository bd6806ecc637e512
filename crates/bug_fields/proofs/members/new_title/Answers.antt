use Rattle.std.proofs.Common.{rules}
use Rattle.bug_fields.proofs.members.new_title.Goals as goal

pub returns-in-Retitle : goal.returns-in-Retitle
returns-in-Retitle c = search rules

pub returns-in_default : goal.returns-in_default
returns-in_default c = search rules
