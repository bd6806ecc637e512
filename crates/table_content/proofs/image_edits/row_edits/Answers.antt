use Rattle.std.proofs.Common.{sym, ◌∙◌}
use Rattle.table_content.proofs.RowLemmas.{clears, puts_kept, puts_new, cleared_free, kept_free, new_free}
use Rattle.table_content.proofs.image_edits.row_edits.Goals as goal

pub returns-then-keeps-clause-cleared : goal.returns-then-keeps-clause-cleared
returns-then-keeps-clause-cleared c =
    clears c.args.image.now c.args.found.now c.args.fixed.now c.key_of-key.result c.has_marks-keeps.result c.key_of-key.ensures
    c.has_marks-keeps.ensures c.in_ok-cleared.cleared (rw c.as_slice.ensures at c.in_ok-cleared.ensures)

pub returns-then-keeps-clause-put : goal.returns-then-keeps-clause-put
returns-then-keeps-clause-put c =
    λ x tree good clear. puts_kept c.args.image.now c.args.found.now c.args.fixed.now c.key_of-key.result c.has_marks-keeps.result c.key_of-key.ensures
    c.has_marks-keeps.ensures c.in_ok-put.put c.in_ok-put.ensures c.if-keeps.true x good clear

pub returns-clause-cleared : goal.returns-clause-cleared
returns-clause-cleared c =
    clears c.args.image.now c.args.found.now c.args.fixed.now c.key_of-key.result c.has_marks-keeps.result c.key_of-key.ensures
    c.has_marks-keeps.ensures c.in_ok-cleared.cleared (rw c.as_slice.ensures at c.in_ok-cleared.ensures)

pub returns-clause-put : goal.returns-clause-put
returns-clause-put c =
    λ x tree. puts_new c.args.image.now c.args.found.now c.args.fixed.now c.key_of-key.result c.has_marks-keeps.result c.key_of-key.ensures
    c.has_marks-keeps.ensures c.put_all_marks.new.edits c.in_ok-put.put c.args.family.now c.in_ok-put.ensures c.if-keeps.false
    c.in_ok-put_all_marks.ensures x (tree (sym c.has_marks-keeps.ensures ∙ c.if-keeps.false))

pub returns-then-keeps-clause-free : goal.returns-then-keeps-clause-free
returns-then-keeps-clause-free c =
    cleared_free c.args.image.now c.args.found.now c.args.fixed.now c.key_of-key.result c.has_marks-keeps.result c.key_of-key.ensures c.has_marks-keeps.ensures
    c.in_ok-cleared.cleared (rw c.as_slice.ensures at c.in_ok-cleared.ensures)

pub returns-then-keeps-clause-put_free : goal.returns-then-keeps-clause-put_free
returns-then-keeps-clause-put_free c =
    kept_free c.args.image.now c.args.found.now c.args.fixed.now c.key_of-key.result c.has_marks-keeps.result c.key_of-key.ensures c.has_marks-keeps.ensures c.in_ok-put.put c.in_ok-put.ensures

pub returns-clause-free : goal.returns-clause-free
returns-clause-free c =
    cleared_free c.args.image.now c.args.found.now c.args.fixed.now c.key_of-key.result c.has_marks-keeps.result c.key_of-key.ensures c.has_marks-keeps.ensures
    c.in_ok-cleared.cleared (rw c.as_slice.ensures at c.in_ok-cleared.ensures)

pub returns-clause-put_free : goal.returns-clause-put_free
returns-clause-put_free c =
    new_free c.args.image.now c.args.found.now c.args.fixed.now c.key_of-key.result c.has_marks-keeps.result c.key_of-key.ensures c.has_marks-keeps.ensures
    c.put_all_marks.new.edits c.in_ok-put.put c.args.family.now c.in_ok-put.ensures c.if-keeps.false c.in_ok-put_all_marks.ensures
