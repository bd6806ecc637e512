use Rattle.std.proofs.Common.{[], ◌∷◌, ◌++◌, refl}
use Rattle.store_contract.specs.Store.{total}
use Rattle.store_contract.proofs.HoldsLemmas.{holds_none, holds_then}
use Rattle.http_answers.specs.Stored.{stored}
use Rattle.desk_http.specs.Serving.{InTurn, Leaves, Counts, Hears, LeavesTurn}
use Rattle.desk_http.proofs.CountLemmas.{turn_grows, stays_same, has_risen, one_longer, within_count, all_served}
use Rattle.desk_http.proofs.ServingLemmas.{one_more}
use Rattle.desk_http.proofs.accepting.serve_connections.Goals as goal

pub loop-done-init : goal.loop-done-init
loop-done-init g c =
    let desk = stored g.S.Records.desk g.S.Records.keeping in
    let faults = g.S.Records.faults in
    let start = c.args.store.now in
    record {
      course = [];
      long = refl;
      same = refl;
      counts = refl;
      leaves = holds_none g.S.Records.is_kept g.S.Records.is_honest start
          {P = InTurn Leaves [] (desk start, faults start) (desk start, faults start)} refl;
      hears = refl;
      crashes = refl;
    }

pub loop-done-preserved : goal.loop-done-preserved
loop-done-preserved g c =
    let desk = stored g.S.Records.desk g.S.Records.keeping in
    let faults = g.S.Records.faults in
    let i = c.loop-done.invariant in
    let start = c.args.store.now in
    let before = c.loop-done.store in
    let after = c.serve_next.new.store in
    let last = c.serve_next.ensures.turn in
    record {
      course = i.course ++ last ∷ [];
      long = one_longer i.course last c.loop-done.done i.long;
      same = stays_same (total (faults start)) (total (faults before)) (total (faults after)) c.faults-before.result c.faults.result
          c.faults-before.ensures c.faults.ensures c.if-before-faults.false i.same
          (turn_grows last (faults before) (faults after) c.serve_next.ensures.counts);
      counts = one_more Counts i.course last (faults start) (faults before) (faults after) i.counts c.serve_next.ensures.counts;
      leaves = holds_then i.leaves c.serve_next.ensures.leaves
          (one_more Leaves i.course last (desk start, faults start) (desk before, faults before) (desk after, faults after));
      hears = one_more Hears i.course last (g.L.Listens.clients c.args.listener.now) (g.L.Listens.clients c.loop-done.listener)
          (g.L.Listens.clients c.serve_next.new.listener) i.hears c.serve_next.ensures.hears;
      crashes = one_more (LeavesTurn g.S.Records.is_kept g.S.Records.is_honest g.S.Records.leaves desk) i.course last start before after
          i.crashes c.serve_next.ensures.crashes;
    }

pub returns-then-before-faults : goal.returns-then-before-faults
returns-then-before-faults g c =
    let desk = stored g.S.Records.desk g.S.Records.keeping in
    let faults = g.S.Records.faults in
    let i = c.loop-done.invariant in
    let start = c.args.store.now in
    let before = c.loop-done.store in
    let after = c.serve_next.new.store in
    let last = c.serve_next.ensures.turn in
    record {
      course = i.course ++ last ∷ [];
      ends = (
        within_count i.course last c.loop-done.done c.args.count i.long c.loop-done-test.true,
        record {
          good = i.course;
          last = last;
          between = faults before;
          is = refl;
          counts = i.counts;
          none = i.same;
          met = c.serve_next.ensures.counts;
          rose = has_risen (total (faults start)) (total (faults after)) c.faults-before.result c.faults.result
              c.faults-before.ensures c.faults.ensures c.if-before-faults.true;
        },
      );
      counts = one_more Counts i.course last (faults start) (faults before) (faults after) i.counts c.serve_next.ensures.counts;
      leaves = holds_then i.leaves c.serve_next.ensures.leaves
          (one_more Leaves i.course last (desk start, faults start) (desk before, faults before) (desk after, faults after));
      hears = one_more Hears i.course last (g.L.Listens.clients c.args.listener.now) (g.L.Listens.clients c.loop-done.listener)
          (g.L.Listens.clients c.serve_next.new.listener) i.hears c.serve_next.ensures.hears;
      crashes = one_more (LeavesTurn g.S.Records.is_kept g.S.Records.is_honest g.S.Records.leaves desk) i.course last start before after
          i.crashes c.serve_next.ensures.crashes;
    }

pub returns : goal.returns
returns g c =
    let i = c.loop-done.invariant in
    record {
      course = i.course;
      ends = (all_served i.course c.loop-done.done c.args.count i.long c.loop-done.auto.done-end c.loop-done-test.false, i.same);
      counts = i.counts;
      leaves = i.leaves;
      hears = i.hears;
      crashes = i.crashes;
    }
