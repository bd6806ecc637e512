use Rattle.std.proofs.Common.{◌≡◌, List, [], ◌∷◌, ◌++◌, ◌∙◌, subst, IfOk}
use Rattle.std.proofs.lemmas.Result.{IfOk-from_err}
use Rattle.bug_record.specs.declared.bug.SetImage.{SetImage}
use Rattle.bug_record.specs.declared.command.Change.{Change}
use Rattle.bug_core.specs.Others.{others}
use Rattle.bug_core.proofs.NamedLemmas.{others-same, has-set}
use Rattle.bug_core.proofs.merges.join_sets.Goals as goal

pub joined_image-requires-clause-set : goal.joined_image-requires-clause-set
joined_image-requires-clause-set c = has-set c.in_ok-set.set.keys c.args.numbers.now c.in_ok-set.ensures

pub returns-clause-images : goal.returns-clause-images
returns-clause-images c =
    let rest : others c.in_ok-set.set.keys c.args.images.now ≡ others c.args.numbers.now c.args.images.now
    = others-same c.in_ok-set.set.keys c.args.numbers.now
    (has-set c.in_ok-set.set.keys c.args.numbers.now c.in_ok-set.ensures) c.args.images.now in
    subst (λ (is : List SetImage). IfOk c.replace.result (λ (change : Change). change.images ≡ is))
    (λ j. (c.one-parts.ensures ∙ (λ k. c.in_ok-image.ensures k ∷ [])) j ++ rest j)
    c.replace.ensures.images

pub returns-in_err-set-clause-images : goal.returns-in_err-set-clause-images
returns-in_err-set-clause-images c = IfOk-from_err _ _ c.from_residual.ensures.0

pub returns-in_err-set-clause-next : goal.returns-in_err-set-clause-next
returns-in_err-set-clause-next c = IfOk-from_err _ _ c.from_residual.ensures.0

pub returns-in_err-image-clause-images : goal.returns-in_err-image-clause-images
returns-in_err-image-clause-images c = IfOk-from_err _ _ c.from_residual-in_err-image.ensures.0

pub returns-in_err-image-clause-next : goal.returns-in_err-image-clause-next
returns-in_err-image-clause-next c = IfOk-from_err _ _ c.from_residual-in_err-image.ensures.0

pub returns-clause-next : goal.returns-clause-next
returns-clause-next c = c.replace.ensures.next
