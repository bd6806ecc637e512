use Rattle.std.proofs.Common.{◌≡◌, ◌++◌, drop}
use Rattle.table_content.specs.EditLists.{blocker_puts}
use Rattle.table_content.proofs.image_edits.put_blockers.Given as goal

abbrev pub invariant-loop-blocker : goal.invariant-loop-blocker
invariant-loop-blocker l =
    l.edits ++ blocker_puts l.key (drop l.blocker-index l.blockers) ≡ l.fn.edits ++ blocker_puts l.key l.blockers
