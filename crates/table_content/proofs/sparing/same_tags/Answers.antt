use Rattle.std.proofs.Common.{rules}
use Rattle.std.specs.Cmp.Lexicographic.{pointwise_decides}
use Rattle.table_content.proofs.sparing.same_tags.Goals as goal

pub returns : goal.returns
returns c = rw c.eq.ensures (pointwise_decides (λ t u. search rules) c.args.a.now c.args.b.now)
