use Rattle.std.proofs.Common.{◌≡◌, ◌++◌, drop}
use Rattle.bug_record.specs.Images.{numbers_of}
use Rattle.bug_record.specs.Sets.{with_items, IsAscending}
use Rattle.bug_core.specs.Joins.{number_of}
use Rattle.bug_core.proofs.by_number.add_merged.Given as goal

abbrev pub invariant-loop-other : goal.invariant-loop-other
invariant-loop-other l = record {
  ascending : IsAscending (numbers_of (drop l.other-index l.others));
  merged : l.merged ++ with_items number_of l.rest (drop l.other-index l.others)
      ≡ l.fn.merged ++ with_items number_of l.members l.others;
}
