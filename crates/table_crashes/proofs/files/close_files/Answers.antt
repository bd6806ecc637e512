use Rattle.std.proofs.Common.{subst}
use Rattle.sqlite.specs.Closing.{IsCopied}
use Rattle.sqlite.specs.Files.{over_files}
use Rattle.desk_tables.proofs.KeptLemmas.{kept_shows}
use Rattle.desk_tables.proofs.FileLemmas.{closed_leaves}
use Rattle.desk_tables.specs.Desk.{content_shown}
use Rattle.table_crashes.proofs.CloseLemmas.{failed_leaves}
use Rattle.table_crashes.proofs.files.close_files.Goals as goal

pub returns-in-Ok-clause-left : goal.returns-in-Ok-clause-left
returns-in-Ok-clause-left g c clean kept =
    let copied = subst (λ h. IsCopied h c.in-Ok.files) c.close.ensures.conn (c.in-Ok.ensures.copied clean) in
    closed_leaves c.args.desk.conn c.in-Ok.files (content_shown c.args.desk) copied (kept_shows c.args.desk kept) kept.content

pub returns-in-Err-clause-crash : goal.returns-in-Err-clause-crash
returns-in-Err-clause-crash g c = failed_leaves c.args.desk c.close.result c.in-Err.store c.close.ensures.conn c.in-Err.ensures.err.0
