use Rattle.std.proofs.Common.{◌≡◌, drop, []}
use Rattle.std.specs.BTreeMap.{values}
use Rattle.bug_core.specs.Others.{those_meant}
use Rattle.bug_core.specs.Named.{named_numbers}
use Rattle.bug_core.specs.Joins.{with_members, AreByNumber}
use Rattle.bug_core.proofs.by_number.members_by_number.Given as goal

abbrev pub invariant-loop-image : goal.invariant-loop-image
invariant-loop-image l = record {
  keyed : AreByNumber l.map.entries;
  members : with_members (values l.map) (those_meant (named_numbers l.named) (drop l.image-index l.images))
      ≡ with_members [] (those_meant (named_numbers l.named) l.images);
}
