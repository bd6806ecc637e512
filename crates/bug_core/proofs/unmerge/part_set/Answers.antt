use Rattle.std.proofs.Common.{◌≡◌, [], ◌∷◌, ◌++◌, List, ◌∙◌, subst, IfOk}
use Rattle.std.proofs.lemmas.Result.{IfOk-from_err}
use Rattle.bug_record.specs.declared.bug.SetImage.{SetImage}
use Rattle.bug_record.specs.declared.command.Change.{Change}
use Rattle.bug_core.specs.Others.{others}
use Rattle.bug_core.proofs.unmerge.part_set.Goals as goal

pub returns-clause-images : goal.returns-clause-images
returns-clause-images c =
    subst (λ (is : List SetImage). IfOk c.replace.result (λ (change : Change). change.images ≡ is))
    (λ j. (c.in_ok-parts.ensures
    ∙ (λ k. record { shared = c.args.shared.now; members = c.in_ok-own.ensures k }
    ∷ record { shared = c.args.shared.now; members = c.args.rest } ∷ [])) j
    ++ others (c.args.number ∷ []) c.args.images.now)
    c.replace.ensures.images

pub returns-in_err-own-clause-images : goal.returns-in_err-own-clause-images
returns-in_err-own-clause-images c = IfOk-from_err _ _ c.from_residual.ensures.0

pub returns-in_err-own-clause-next : goal.returns-in_err-own-clause-next
returns-in_err-own-clause-next c = IfOk-from_err _ _ c.from_residual.ensures.0

pub returns-in_err-parts-clause-images : goal.returns-in_err-parts-clause-images
returns-in_err-parts-clause-images c = IfOk-from_err _ _ c.from_residual-in_err-parts.ensures.0

pub returns-in_err-parts-clause-next : goal.returns-in_err-parts-clause-next
returns-in_err-parts-clause-next c = IfOk-from_err _ _ c.from_residual-in_err-parts.ensures.0

pub returns-clause-next : goal.returns-clause-next
returns-clause-next c = c.replace.ensures.next
