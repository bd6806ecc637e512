use Rattle.std.proofs.Common.{◌≡◌, ◌++◌, drop}
use Rattle.table_reads.proofs.keys.small_keys.Given as goal

abbrev pub invariant-loop-key : goal.invariant-loop-key
invariant-loop-key l = l.small.items ++ drop l.key-index l.keys ≡ l.keys
