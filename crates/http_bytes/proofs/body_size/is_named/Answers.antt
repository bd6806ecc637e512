use Rattle.std.proofs.Common.{rules}
use Rattle.http_bytes.proofs.body_size.is_named.Goals as goal

pub returns : goal.returns
returns c = search rules
