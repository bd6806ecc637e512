use Rattle.std.proofs.Common.{ap}
use Rattle.store_keys.specs.Keys.{Keyed}
use Rattle.table_reads.proofs.known.KnownSets.new.Goals as goal

pub returns : goal.returns
returns c = λ k. ap (λ (b : Keyed). b.set k) c.new.ensures
