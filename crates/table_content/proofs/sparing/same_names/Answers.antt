use Rattle.std.specs.Cmp.Lexicographic.{pointwise_decides, bytes_decides}
use Rattle.table_content.proofs.sparing.same_names.Goals as goal

pub returns : goal.returns
returns c = rw c.eq.ensures (pointwise_decides bytes_decides c.args.a.now c.args.b.now)
