use Rattle.std.proofs.Common.{rules}
use Rattle.bug_record.proofs.severity.Severity.rank.Goals as goal

pub returns-in-Wishlist : goal.returns-in-Wishlist
returns-in-Wishlist c = search rules
