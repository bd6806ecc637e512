use Rattle.std.proofs.Common.{subst}
use Rattle.bug_record.specs.Desk.{Desk}
use Rattle.store_contract.specs.Store.{no_faults}
use Rattle.store_sets.specs.Plain.{desk_of}
use Rattle.desk_run.specs.Script.{begin}
use Rattle.desk_run.specs.Running.{Ends}
use Rattle.program_jobs.proofs.script.run_script_job.Goals as goal

pub returns : goal.returns
returns g c =
    let over = c.run_script_over-end.ensures in
    let new = c.run_script_over-end.new.desk in
    record {
      known = λ input left.
          record {
            result = over.result;
            desk = desk_of new.bugs new.tree new.next;
            rest = over.rest;
            ends = subst (λ (d : Desk). Ends input over.rest
                (record {
                  from = begin d;
                  desk = desk_of new.bugs new.tree new.next;
                  faults_before = no_faults;
                  faults = no_faults;
                  written_before = g.W.Write.contents c.args.writer.now;
                  written = g.W.Write.contents c.run_script_over-end.new.writer;
                }) over.result)
                c.new-desk.ensures.desk ((over.ran.fact tt tt).known input left);
            end_is = over.end_is;
          };
    }
