use Rattle.std.proofs.Common.{arith}
use Rattle.http_bytes.proofs.PieceLemmas.{came-of_read}
use Rattle.http_bytes.proofs.pieces.read_piece.Goals as goal

pub returns-clause-came : goal.returns-clause-came
returns-clause-came g c =
    came-of_read c.read.result _ _ _ _ _ (omega arith) (omega arith) c.read.ensures.bound c.read.ensures.bytes
