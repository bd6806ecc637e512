use Rattle.std.proofs.Common.{◌≡◌, ◌≤◌, length, take, drop}
use Rattle.store_contract.specs.Store.{Holds}
use Rattle.store_contract.specs.Kept.{lines_told}
use Rattle.store_contract.specs.Progress.{IsInStep}
use Rattle.message_receiving.specs.GoingOn.{IsBegun}
use Rattle.message_receiving.specs.Crashes.{LeavesTried}
use Rattle.message_receiving.proofs.GoingLemmas.{Going}
use Rattle.message_receiving.proofs.going_on.go_on.Given as goal

abbrev pub invariant-loop-i : goal.invariant-loop-i
invariant-loop-i g l = record {
  in_step : IsInStep l.progress.outcomes.items l.progress.unreadable l.progress.known.names;
  all : length (lines_told (take l.i l.lines)) ≡ length l.progress.outcomes.items;
  later : length l.fn.recalled.progress.outcomes.items ≤ length l.progress.outcomes.items;
  faults : g.S.Records.faults l.store ≡ g.S.Records.faults l.fn.store;
  honest : g.S.Records.is_honest l.store → g.S.Records.is_honest l.fn.store;
  taken : (earlier : g.row.S.Denot) → Holds g.S.Records.is_kept g.S.Records.is_honest earlier l.fn.store
      (IsBegun l.id l.from l.message (g.S.Records.keeping l.fn.store) l.fn.recalled.progress.outcomes.items
      l.fn.recalled.progress.known.names)
      → Holds g.S.Records.is_kept g.S.Records.is_honest earlier l.store
      (Going l.id l.from l.message (g.S.Records.desk l.fn.store) (g.S.Records.desk l.store) (g.S.Records.keeping l.fn.store)
      (g.S.Records.keeping l.store) l.fn.recalled.progress.outcomes.items l.progress.outcomes.items l.progress.known.names
      (drop (length l.fn.recalled.progress.outcomes.items) (lines_told (take l.i l.lines))));
  left : (earlier : g.row.S.Denot) → Holds g.S.Records.is_kept g.S.Records.is_honest earlier l.fn.store
      (IsBegun l.id l.from l.message (g.S.Records.keeping l.fn.store) l.fn.recalled.progress.outcomes.items
      l.fn.recalled.progress.known.names)
      → Holds g.S.Records.is_kept g.S.Records.is_honest earlier l.store
      (LeavesTried g.S.Records.leaves l.fn.store l.store (g.S.Records.desk l.fn.store, g.S.Records.keeping l.fn.store)
      (g.S.Records.desk l.store, g.S.Records.keeping l.store) (g.S.Records.desk l.store, g.S.Records.keeping l.store));
}
