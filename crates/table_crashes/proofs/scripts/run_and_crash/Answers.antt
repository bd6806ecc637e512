use Rattle.table_crashes.proofs.ScriptLemmas.{found_after}
use Rattle.table_crashes.proofs.scripts.run_and_crash.Goals as goal

pub returns : goal.returns
returns g c = record {
  found = found_after g.S.Store c.crash_and_open-again.result _ _ _ _ _ _ c.args.desk c.run_script-ended.new.store c.run_script-ended.result
      c.crash_and_open-again.ensures.honest c.crash_and_open-again.ensures.either c.run_script-ended.ensures.answer
      c.run_script-ended.ensures.crash;
}
