use Rattle.std.proofs.Common.{subst}
use Rattle.desk_http.proofs.RepeatLemmas.{stored_same}
use Rattle.http_answers.specs.Stored.{Stored}
use Rattle.memory_desk.specs.KeptMessages.{keeping_of}
use Rattle.store_contract.specs.Store.{no_faults}
use Rattle.store_sets.specs.Plain.{desk_of}
use Rattle.desk_http.specs.Serving.{IsInTurn}
use Rattle.desk_http.proofs.ServingLemmas.{in_turn}
use Rattle.program_jobs.proofs.ServerLemmas.{serves_weaker}
use Rattle.program_jobs.proofs.server.serve_job.Goals as goal

pub returns : goal.returns
returns g c =
    let over = c.serve_over-end.ensures in
    let new = c.serve_over-end.new.desk in
    let last : Stored = record { desk = desk_of new.bugs new.tree new.next; kept = keeping_of new.messages } in
    record {
      result = over.result;
      end_is = over.end_is;
      told = over.told;
      bind = λ e. (over.bind e).1;
      last = (last, no_faults);
      served = serves_weaker over.result
          (λ s. subst (λ (d : Stored). IsInTurn c.args.count (d, no_faults) (last, no_faults) over.result)
          (stored_same c.new-desk.ensures.desk c.new-desk.ensures.kept)
          (in_turn _ _ _ _ _ c.args.count _ new _ _ over.result s tt tt))
          over.served;
    }
