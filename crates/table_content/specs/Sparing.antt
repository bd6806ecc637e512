-- Edits without those of rows that are the same before and after a change.
-- This project's own rule.
use Rattle.std.specs.Prelude.{Bool, false, not, List, filter}
use Rattle.table_content.specs.declared.edit.Edit.{Edit}
use Rattle.table_content.specs.declared.edit.Edit.TheVariants as edits
use Rattle.table_content.specs.declared.sparing.SameRows.{SameRows}

-- whether the edit is of a row that is the same
abbrev pub is_spared : SameRows → Edit → Bool
is_spared same (edits.DropFields k) = same.fields
is_spared same (edits.PutFields k f) = same.fields
is_spared same (edits.DropBlockers k) = same.blockers
is_spared same (edits.PutBlocker k b) = same.blockers
is_spared same (edits.DropAffects k) = same.affects
is_spared same (edits.PutAffects k n) = same.affects
is_spared same _ = false

-- the edits but for those
abbrev pub spared : SameRows → List Edit → List Edit
spared same es = filter (λ e. not (is_spared same e)) es
