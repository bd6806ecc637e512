use Rattle.std.proofs.Common.{arith}
use Rattle.sqlite.specs.Files.{file_state}
use Rattle.sqlite.specs.State.{HasCleanDisk}
use Rattle.table_opening.specs.Opening.{unlimited}
use Rattle.table_opening.proofs.OpeningLemmas.{is_failure}
use Rattle.program_jobs.proofs.RefusalLemmas.{has_desk, unmade}
use Rattle.program_jobs.proofs.file_desk.create_over.Goals as goal

pub returns-in-Ok-clause-made : goal.returns-in-Ok-clause-made
returns-in-Ok-clause-made g c =
    record {
      blank = λ content held honest.
          let clean : HasCleanDisk (file_state c.args.conn) = omega (arith, c.in-Ok.ensures.crash.clean, honest) in
          c.in-Ok.ensures.not_empty.1
          (has_desk g.S.Start c.args.conn (record { opened = c.requires.opened; found = c.requires.found }) content held clean);
      kept = c.in-Ok.ensures.kept;
      empty = c.in-Ok.ensures.empty;
      none_kept = c.in-Ok.ensures.none_kept;
      uncounted = c.in-Ok.ensures.counts;
    }

pub returns-in-Err-clause-cause : goal.returns-in-Err-clause-cause
returns-in-Err-clause-cause g c =
    unmade g.S.Start c.args.conn (record { opened = c.requires.opened; found = c.requires.found }) c.in-Err.found c.in-Err.ensures.left
    c.cause_of.result c.in-Err.fault c.close.result c.cause_of.ensures c.close.ensures
    (λ clean. record { not_empty = c.in-Err.ensures.not_empty; foreign = c.in-Err.ensures.foreign; blank = λ blank. is_failure (unlimited (file_state c.args.conn)) (file_state c.in-Err.found) c.in-Err.fault (c.in-Err.ensures.blank blank clean) })
    c.in-Err.ensures.spared
