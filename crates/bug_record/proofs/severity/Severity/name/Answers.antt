use Rattle.std.proofs.Common.{rules}
use Rattle.bug_record.proofs.severity.Severity.name.Goals as goal

pub returns-in-Grave : goal.returns-in-Grave
returns-in-Grave c = search rules
