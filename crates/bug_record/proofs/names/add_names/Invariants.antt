use Rattle.std.proofs.Common.{◌≡◌, drop}
use Rattle.base_sequences.specs.Ordered.{with_each}
use Rattle.bug_record.specs.PackageSets.{name_cmp}
use Rattle.bug_record.proofs.names.add_names.Given as goal

abbrev pub invariant-loop-name : goal.invariant-loop-name
invariant-loop-name l =
    with_each name_cmp l.set.keys (drop l.name-index l.names) ≡ with_each name_cmp l.fn.set.keys l.names
