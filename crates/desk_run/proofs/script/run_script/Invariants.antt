use Rattle.std.proofs.Common.{◌≡◌, ◌+◌, ◌≤◌, ◌++◌, ℕ, List, length}
use Rattle.store_contract.specs.Store.{Holds}
use Rattle.control_lines.specs.Buffered.{bytes_left}
use Rattle.control_lines.specs.Reading.{Left}
use Rattle.desk_run.specs.Script.{Part, begin, standing}
use Rattle.desk_run.specs.Carrying.{Runs}
use Rattle.store_contract.specs.Tried.{LeavesTried}
use Rattle.desk_run.proofs.ScriptLemmas.{ReadTo, IsCut}
use Rattle.desk_run.proofs.script.run_script.Given as goal

abbrev pub invariant-loop-number : goal.invariant-loop-number
invariant-loop-number g l =
    let desk = g.S.Records.desk in
    record {
      before : List Part;
      texts : List (List ℕ);
      counted : length texts + 1 ≡ l.number;
      within : l.number + bytes_left l.source ≤ 137438953473;
      cut : IsCut texts before l.run.gathered.items;
      faults : g.S.Records.faults l.store ≡ g.S.Records.faults l.fn.store;
      read : Left (g.R.Read.remaining l.fn.reader) (g.R.Read.remaining l.reader)
          (λ xs ys. ReadTo texts xs (l.source.unread ++ ys));
      ran : Holds g.S.Records.is_kept g.S.Records.is_honest l.fn.store l.store
          (Runs before (begin (desk l.fn.store)) (standing (desk l.store) l.run.sender l.run.refused)
          (g.W.Write.contents l.fn.writer) (g.W.Write.contents l.writer));
      stays : Holds g.S.Records.is_kept g.S.Records.is_honest l.fn.store l.store
          (g.S.Records.keeping l.store ≡ g.S.Records.keeping l.fn.store);
      left : Holds g.S.Records.is_kept g.S.Records.is_honest l.fn.store l.store
          (LeavesTried g.S.Records.leaves l.fn.store l.store (g.S.Records.keeping l.fn.store) (desk l.fn.store) (desk l.store)
          (desk l.store));
    }
