use Rattle.std.proofs.Common.{rules}
use Rattle.http_routes.proofs.members.control_members.Goals as goal

pub returns : goal.returns
returns c = search rules
