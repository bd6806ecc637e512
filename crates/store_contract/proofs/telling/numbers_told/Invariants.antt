use Rattle.std.proofs.Common.{◌≡◌, map, take}
use Rattle.store_contract.specs.Telling.{number_told}
use Rattle.store_contract.proofs.telling.numbers_told.Given as goal

abbrev pub invariant-loop-bug : goal.invariant-loop-bug
invariant-loop-bug l = l.numbers ≡ map (number_told l.known.names) (take l.bug-index l.words)
