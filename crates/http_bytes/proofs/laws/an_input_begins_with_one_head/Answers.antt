use Rattle.http_bytes.proofs.HeadLemmas.{one_head}
use Rattle.http_bytes.proofs.laws.an_input_begins_with_one_head.Goals as goal

pub returns : goal.returns
returns c = one_head
