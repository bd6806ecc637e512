use Rattle.std.proofs.Common.{◌≡◌, List, ◌∷◌, ◌∙◌, subst, IfOk}
use Rattle.bug_record.specs.declared.bug.SetImage.{SetImage}
use Rattle.bug_record.specs.declared.command.Change.{Change}
use Rattle.bug_core.specs.Joins.{joined_image}
use Rattle.bug_core.specs.Others.{others}
use Rattle.bug_core.proofs.merges.join_all.Goals as goal

pub returns-clause-images : goal.returns-clause-images
returns-clause-images c =
    let numbers = c.as_slice.ensures ∙ c.in_ok-numbers.ensures in
    subst (λ (is : List SetImage). IfOk c.join_sets.result (λ (change : Change). change.images ≡ is))
    (λ j. joined_image c.args.shared.now c.args.images.now (numbers j) ∷ others (numbers j) c.args.images.now)
    c.join_sets.ensures.images
