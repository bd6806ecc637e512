use Rattle.std.proofs.Common.{rules}
use Rattle.http_bytes.proofs.body_size.length_of_value.Goals as goal

pub returns : goal.returns
returns c = search rules
