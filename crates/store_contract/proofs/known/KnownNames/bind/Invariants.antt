use Rattle.std.proofs.Common.{◌≡◌, ◌≤◌, ◌++◌, length, drop}
use Rattle.std.specs.Prelude.{zip}
use Rattle.indexmap.specs.IndexMap.{spare}
use Rattle.store_contract.proofs.KnownLemmas.{AreFree}
use Rattle.store_contract.proofs.known.KnownNames.bind.Given as goal

abbrev pub invariant-loop-name : goal.invariant-loop-name
invariant-loop-name l = record {
  bound : l.self-inside.numbers.entries ++ zip (drop (length l.yielded) l.names) (drop (length l.yielded) l.numbers)
      ≡ l.fn.self.names ++ zip l.names l.numbers;
  free : AreFree l.self-inside.numbers.entries (drop (length l.yielded) l.names);
  room : length (drop (length l.yielded) l.names) ≤ spare l.self-inside.numbers;
}
