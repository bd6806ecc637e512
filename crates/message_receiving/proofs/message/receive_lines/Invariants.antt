use Rattle.std.proofs.Common.{◌≡◌, take}
use Rattle.store_contract.specs.Store.{Holds}
use Rattle.store_contract.specs.Message.{after_lines, at_start, machine}
use Rattle.store_contract.specs.Progress.{HaveNumbers}
use Rattle.store_contract.specs.Progress.{IsInStep}
use Rattle.store_contract.specs.Tried.{LeavesTried}
use Rattle.message_receiving.proofs.message.receive_lines.Given as goal

abbrev pub invariant-loop-i : goal.invariant-loop-i
invariant-loop-i g l = record {
  in_step : IsInStep l.progress.outcomes.items l.progress.unreadable l.progress.known.names;
  faults : g.S.Records.faults l.store ≡ g.S.Records.faults l.fn.store;
  stays : Holds g.S.Records.is_kept g.S.Records.is_honest l.fn.store l.store
      (g.S.Records.keeping l.store ≡ g.S.Records.keeping l.fn.store);
  taken : Holds g.S.Records.is_kept g.S.Records.is_honest l.fn.store l.store
      ((after_lines l.from (at_start (g.S.Records.desk l.fn.store)) (take l.i l.lines)
      ≡ machine (g.S.Records.desk l.store) l.progress.outcomes.items) × HaveNumbers l.progress.known.names);
  left : Holds g.S.Records.is_kept g.S.Records.is_honest l.fn.store l.store
      (LeavesTried g.S.Records.leaves l.fn.store l.store (g.S.Records.keeping l.fn.store) (g.S.Records.desk l.fn.store)
      (g.S.Records.desk l.store) (g.S.Records.desk l.store));
}
