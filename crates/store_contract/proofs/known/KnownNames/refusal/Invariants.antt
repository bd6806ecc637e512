use Rattle.std.proofs.Common.{◌≡◌, drop}
use Rattle.std.specs.List.{find}
use Rattle.bug_record.specs.Clones.{is_taken}
use Rattle.store_contract.proofs.known.KnownNames.refusal.Given as goal

abbrev pub invariant-loop-name : goal.invariant-loop-name
invariant-loop-name l =
    find (is_taken l.self.names l.names) (drop l.name-index l.names) ≡ find (is_taken l.self.names l.names) l.names
