use Rattle.std.proofs.Common.{◌≡◌, take}
use Rattle.std.specs.BTreeSet.{contains}
use Rattle.std.specs.Ordering.{nat_cmp}
use Rattle.bug_record.specs.Images.{AreApart}
use Rattle.store_contract.specs.Store.{Asks}
use Rattle.message_plans.specs.Images.{Lists, Gather}
use Rattle.message_plans.proofs.images.gather_all.Given as goal

abbrev pub invariant-loop-number : goal.invariant-loop-number
invariant-loop-number g l = record {
  apart : AreApart l.images;
  bugs : Lists (contains nat_cmp l.bugs) l.images;
  stays : g.S.Records.keeping l.store ≡ g.S.Records.keeping l.fn.store;
  faults : g.S.Records.faults l.store ≡ g.S.Records.faults l.fn.store;
  gathered : Asks g.S.Records.is_kept g.S.Records.is_honest g.S.Records.leaves l.fn.store l.store
      (Gather (g.S.Records.desk l.fn.store) (take l.number-index l.numbers) l.fn.images l.images
      × (g.S.Records.desk l.store ≡ g.S.Records.desk l.fn.store));
}
