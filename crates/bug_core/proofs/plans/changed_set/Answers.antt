use Rattle.std.proofs.Common.{◌≡◌, [], ◌∷◌, ◌++◌, ◌∙◌, List, subst, IfOk}
use Rattle.std.specs.Prelude.{map}
use Rattle.std.proofs.lemmas.Result.{IfOk-from_err}
use Rattle.bug_fields.specs.Members.{member_after}
use Rattle.bug_record.specs.declared.command.Change.{Change}
use Rattle.bug_record.specs.declared.bug.SetImage.{SetImage}
use Rattle.bug_core.specs.Others.{others}
use Rattle.bug_core.proofs.plans.changed_set.Goals as goal

pub returns-clause-images : goal.returns-clause-images
returns-clause-images c =
    let members : c.in_ok-members.members
    ≡ map (member_after c.args.from.now c.args.command.now c.args.image.now.shared) c.args.image.now.members
    = c.in_ok-members.ensures
    ∙ (λ j. map (member_after c.args.from.now c.args.command.now (c.fields.ensures j)) c.args.image.now.members) in
    subst (λ (is : List SetImage). IfOk c.replace.result (λ (change : Change). change.images ≡ is))
    (λ j. (c.one.ensures ∙ (λ k. record { shared = c.in_ok-shared.ensures k; members = members k } ∷ [])) j
    ++ others (c.bug_named.ensures j ∷ []) c.args.images.now)
    c.replace.ensures.images

pub returns-in_err-shared-clause-images : goal.returns-in_err-shared-clause-images
returns-in_err-shared-clause-images c = IfOk-from_err _ _ c.from_residual.ensures.0

pub returns-in_err-shared-clause-next : goal.returns-in_err-shared-clause-next
returns-in_err-shared-clause-next c = IfOk-from_err _ _ c.from_residual.ensures.0

pub returns-in_err-members-clause-images : goal.returns-in_err-members-clause-images
returns-in_err-members-clause-images c = IfOk-from_err _ _ c.from_residual-in_err-members.ensures.0

pub returns-in_err-members-clause-next : goal.returns-in_err-members-clause-next
returns-in_err-members-clause-next c = IfOk-from_err _ _ c.from_residual-in_err-members.ensures.0

pub returns-clause-next : goal.returns-clause-next
returns-clause-next c = c.replace.ensures.next
