use Rattle.std.proofs.Common.{◌≡◌, List, length}
use Rattle.store_contract.specs.Store.{Holds, total}
use Rattle.http_answers.specs.Stored.{stored}
use Rattle.desk_http.specs.Serving.{Turn, Leaves, Counts, Hears, LeavesTurn, InTurn}
use Rattle.desk_http.proofs.accepting.serve_connections.Given as goal

abbrev pub invariant-loop-done : goal.invariant-loop-done
invariant-loop-done g l =
    let desk = stored g.S.Records.desk g.S.Records.keeping in
    let faults = g.S.Records.faults in
    record {
      course : List Turn;
      long : length course ≡ l.done;
      same : total (faults l.store) ≡ total (faults l.fn.store);
      counts : InTurn Counts course (faults l.fn.store) (faults l.store);
      leaves : Holds g.S.Records.is_kept g.S.Records.is_honest l.fn.store l.store
          (InTurn Leaves course (desk l.fn.store, faults l.fn.store) (desk l.store, faults l.store));
      hears : InTurn Hears course (g.L.Listens.clients l.fn.listener) (g.L.Listens.clients l.listener);
      crashes : InTurn (LeavesTurn g.S.Records.is_kept g.S.Records.is_honest g.S.Records.leaves desk) course l.fn.store l.store;
    }
