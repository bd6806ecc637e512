use Rattle.std.proofs.Common.{◌≡◌, drop}
use Rattle.std.specs.BTreeMap.{values}
use Rattle.bug_record.specs.Sets.{with_items}
use Rattle.bug_core.specs.Joins.{number_of, AreByNumber}
use Rattle.bug_core.proofs.by_number.add_members.Given as goal

abbrev pub invariant-loop-member : goal.invariant-loop-member
invariant-loop-member l = record {
  keyed : AreByNumber l.map.entries;
  members : with_items number_of (values l.map) (drop l.member-index l.members)
      ≡ with_items number_of (values l.fn.map) l.members;
}
