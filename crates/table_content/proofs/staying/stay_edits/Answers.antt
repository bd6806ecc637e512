use Rattle.std.proofs.Common.{List, sym, ap, ◌∙◌, subst}
use Rattle.bug_record.specs.Sets.{Each}
use Rattle.table_content.specs.Edits.{edited_all}
use Rattle.table_content.specs.Free.{AreFree}
use Rattle.table_content.specs.Images.{same_marks}
use Rattle.table_content.specs.Staying.{IsNeeded}
use Rattle.table_content.specs.declared.edit.Edit.{Edit}
use Rattle.table_content.proofs.SpareLemmas.{rows_spared, rows_spared_free, all_needed}
use Rattle.table_content.proofs.staying.stay_edits.Goals as goal

pub returns-clause-edits : goal.returns-clause-edits
returns-clause-edits c =
    λ x tree near has good stays clear.
    let all = rw (c.as_slice-found.ensures, c.as_slice-fixed.ensures) at c.in_ok-edits.ensures.edits in
    let same = rw c.fields.ensures at c.same_rows-same.ensures in
    ap (λ (es : List Edit). edited_all es x) c.spare.ensures
    ∙ rows_spared c.args.image.now c.args.before.now x (same_marks c.args.image.now c.args.before.now.found c.args.before.now.fixed)
    c.same_rows-same.result c.in_ok-edits.edits (all x tree near has.marks good stays clear) stays has same.fields.0 same.blockers.0 same.affects.0

pub returns-clause-free : goal.returns-clause-free
returns-clause-free c =
    λ x has good stays clear.
    let all = rw (c.as_slice-found.ensures, c.as_slice-fixed.ensures) at c.in_ok-edits.ensures.free in
    subst (λ (es : List Edit). AreFree es x) (sym c.spare.ensures)
    (rows_spared_free x c.same_rows-same.result c.in_ok-edits.edits (all x has.marks good stays clear))

pub returns-clause-needed : goal.returns-clause-needed
returns-clause-needed c =
    let same = rw c.fields.ensures at c.same_rows-same.ensures in
    subst (Each (IsNeeded c.args.before.now c.args.image.now.shared)) (sym c.spare.ensures)
    (all_needed c.args.before.now c.args.image.now.shared c.same_rows-same.result same.fields.1 same.blockers.1 same.affects.1 c.in_ok-edits.edits)
