use Rattle.std.proofs.Common.{sym, subst, ap, ◌∙◌, List}
use Rattle.table_content.specs.Edits.{edited_all}
use Rattle.table_content.specs.Free.{AreFree}
use Rattle.table_content.specs.declared.edit.Edit.{Edit}
use Rattle.table_content.proofs.BranchLemmas.{branch_played, branch_free}
use Rattle.table_content.proofs.branches.branch_edits.Goals as goal

pub returns-clause-content : goal.returns-clause-content
returns-clause-content c =
    let links = rw c.new-edits.ensures at c.in_ok-put_links.ensures in
    let all = rw links at c.in_ok-put_set_near.ensures in
    λ x changes missing old.
    ap (λ (es : List Edit). edited_all es x) all
    ∙ branch_played x c.args.tree.now c.args.changed.now c.args.rows.items changes missing old

pub returns-clause-free : goal.returns-clause-free
returns-clause-free c =
    let links = rw c.new-edits.ensures at c.in_ok-put_links.ensures in
    let all = rw links at c.in_ok-put_set_near.ensures in
    λ x missing. subst (λ (es : List Edit). AreFree es x) (sym all)
    (branch_free x c.args.tree.now c.args.changed.now c.args.rows.items missing)
