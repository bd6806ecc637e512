use Rattle.std.proofs.Common.{◌≡◌, ℕ, Bool, List, ◌++◌, sym, ap, subst, ◌∙◌}
use Rattle.table_content.specs.Edits.{edited_all}
use Rattle.table_content.specs.Free.{AreFree}
use Rattle.table_content.specs.EditLists.{moves, row_drops, mark_drops, key_drops}
use Rattle.table_content.specs.Images.{without_image, with_image, IsCleared}
use Rattle.table_content.specs.declared.edit.Edit.{Edit}
use Rattle.table_content.proofs.MarkMoveLemmas.{moves_made, moves_free}
use Rattle.table_content.proofs.StayLemmas.{stays_kept, stays_kept_free, stays_new, stays_new_free}
use Rattle.table_content.proofs.staying.all_edits.Goals as goal

drops : (first both : List Edit) (keeps : Bool) (key : ℕ) → first ≡ row_drops key → both ≡ first ++ mark_drops keeps key key → both ≡ key_drops keeps key
drops first both keeps key one two = two ∙ ap (λ (es : List Edit). es ++ mark_drops keeps key key) one

pub returns-then-loses_none-clause-edits : goal.returns-then-loses_none-clause-edits
returns-then-loses_none-clause-edits c =
    λ x tree near there good stays clear.
    let i = c.args.image.now in
    let new = sym c.has_marks-keeps.ensures ∙ c.if-not-keeps.true in
    let r = c.in_ok-moving_edits.ensures in
    ap (λ (es : List Edit). edited_all es x) r.3
    ∙ subst (λ b. IsCleared b i (without_image b i x) → edited_all (moves i c.args.found.now c.args.fixed.now r.0) x ≡ with_image i (without_image b i x)) (sym new)
    (moves_made i good c.args.found.now c.args.fixed.now x there.0 there.1 r.0 c.args.family.now r.1 r.2 new (sym c.loses_none.ensures ∙ c.if-loses_none.true) (tree new) near stays)
    clear

pub returns-then-loses_none-clause-free : goal.returns-then-loses_none-clause-free
returns-then-loses_none-clause-free c =
    λ x there good stays clear.
    let r = c.in_ok-moving_edits.ensures in
    subst (λ (es : List Edit). AreFree es x) (sym r.3) (moves_free c.args.image.now good c.args.found.now c.args.fixed.now x there.0 there.1 r.0)

pub returns-then-keeps-clause-edits : goal.returns-then-keeps-clause-edits
returns-then-keeps-clause-edits c =
    λ x tree near there good stays clear. stays_kept c.args.image.now c.args.found.now c.args.fixed.now c.key_of-key.result c.has_marks-keeps.result
    c.key_of-key.ensures c.has_marks-keeps.ensures c.drop_marks.new.edits c.put_shared.new.edits (drops c.in_ok-edits.edits c.drop_marks.new.edits c.has_marks-keeps.result c.key_of-key.result c.in_ok-edits.ensures c.in_ok-drop_marks.ensures) c.in_ok-put_shared.ensures
    x good stays clear c.if-keeps.true

pub returns-then-keeps-clause-free : goal.returns-then-keeps-clause-free
returns-then-keeps-clause-free c =
    λ x there good stays clear. stays_kept_free c.args.image.now c.args.found.now c.args.fixed.now c.key_of-key.result c.has_marks-keeps.result
    c.key_of-key.ensures c.has_marks-keeps.ensures c.drop_marks.new.edits c.put_shared.new.edits (drops c.in_ok-edits.edits c.drop_marks.new.edits c.has_marks-keeps.result c.key_of-key.result c.in_ok-edits.ensures c.in_ok-drop_marks.ensures) c.in_ok-put_shared.ensures
    x good stays clear

pub returns-clause-edits : goal.returns-clause-edits
returns-clause-edits c =
    λ x tree near there good stays clear. stays_new c.args.image.now c.args.found.now c.args.fixed.now c.key_of-key.result c.has_marks-keeps.result
    c.key_of-key.ensures c.has_marks-keeps.ensures c.drop_marks.new.edits c.put_shared.new.edits (drops c.in_ok-edits.edits c.drop_marks.new.edits c.has_marks-keeps.result c.key_of-key.result c.in_ok-edits.ensures c.in_ok-drop_marks.ensures) c.in_ok-put_shared.ensures
    x good stays clear c.put_all_marks.new.edits c.args.family.now c.if-keeps.false c.in_ok-put_all_marks.ensures
    (tree (sym c.has_marks-keeps.ensures ∙ c.if-keeps.false))

pub returns-clause-free : goal.returns-clause-free
returns-clause-free c =
    λ x there good stays clear. stays_new_free c.args.image.now c.args.found.now c.args.fixed.now c.key_of-key.result c.has_marks-keeps.result
    c.key_of-key.ensures c.has_marks-keeps.ensures c.drop_marks.new.edits c.put_shared.new.edits (drops c.in_ok-edits.edits c.drop_marks.new.edits c.has_marks-keeps.result c.key_of-key.result c.in_ok-edits.ensures c.in_ok-drop_marks.ensures) c.in_ok-put_shared.ensures
    x good stays clear c.put_all_marks.new.edits c.args.family.now c.if-keeps.false c.in_ok-put_all_marks.ensures
