use Rattle.std.proofs.Common.{◌≡◌, ◌++◌, drop}
use Rattle.table_content.specs.EditLists.{member_puts}
use Rattle.table_content.proofs.image_edits.put_members.Given as goal

abbrev pub invariant-loop-member : goal.invariant-loop-member
invariant-loop-member l =
    l.edits ++ member_puts l.key (drop l.member-index l.members) ≡ l.fn.edits ++ member_puts l.key l.members
