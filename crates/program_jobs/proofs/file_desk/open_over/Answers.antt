use Rattle.std.proofs.Common.{◌≡◌, sym, ap, subst}
use Rattle.std.proofs.Math.Logic.{∥∥₁_elim}
use Rattle.sqlite.specs.Files.{file_state}
use Rattle.sqlite.specs.State.{HasCleanDisk}
use Rattle.sqlite_trees.specs.Props.{Trees-set}
use Rattle.table_content.specs.View.{desk_in, keeping_in}
use Rattle.table_opening.specs.Shown.{HoldsContent}
use Rattle.table_opening.proofs.HeldLemmas.{holds_tables}
use Rattle.table_opening.specs.Opening.{unlimited}
use Rattle.table_opening.proofs.OpeningLemmas.{is_failure}
use Rattle.program_jobs.proofs.RefusalLemmas.{holds_content, unopened}
use Rattle.program_jobs.proofs.file_desk.open_over.Goals as goal

pub returns-in-Ok-clause-opened : goal.returns-in-Ok-clause-opened
returns-in-Ok-clause-opened g c = record {
  uncounted = c.in-Ok.ensures.counts;
  found = λ content held honest.
      let clean : HasCleanDisk (file_state c.args.conn) = c.in-Ok.ensures.honest honest in
      let holds = holds_content g.S.Start c.args.conn (record { opened = c.requires.opened; found = c.requires.found }) content held clean in (
        c.in-Ok.ensures.kept content honest holds held.kept,
        ap desk_in (c.in-Ok.ensures.content content honest holds),
        ap keeping_in (c.in-Ok.ensures.content content honest holds),
      );
}

pub returns-in-Err-clause-cause : goal.returns-in-Err-clause-cause
returns-in-Err-clause-cause g c =
    unopened g.S.Start c.args.conn (record { opened = c.requires.opened; found = c.requires.found }) c.in-Err.conn c.in-Err.ensures.left
    c.cause_of.result c.in-Err.fault c.close.result c.cause_of.ensures c.close.ensures c.in-Err.ensures.why (λ k holds clean. is_failure (unlimited (file_state c.args.conn)) (file_state c.in-Err.conn) c.in-Err.fault (c.in-Err.ensures.desk k holds clean)) c.in-Err.ensures.crash
