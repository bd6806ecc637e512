use Rattle.std.proofs.Common.{◌≡◌, ◌++◌, drop}
use Rattle.table_content.specs.EditLists.{drops}
use Rattle.table_content.proofs.image_edits.drop_members.Given as goal

abbrev pub invariant-loop-member : goal.invariant-loop-member
invariant-loop-member l =
    l.edits ++ drops l.keeps l.key (drop l.member-index l.members) ≡ drops l.keeps l.key l.members
