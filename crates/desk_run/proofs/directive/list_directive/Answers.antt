use Rattle.std.proofs.Common.{ℕ, List, ◌∷◌, sym, ap, ◌∙◌}
use Rattle.desk_run.specs.Script.{list_directive}
use Rattle.desk_run.proofs.directive.list_directive.Goals as goal

pub returns-in-None-clause-value : goal.returns-in-None-clause-value
returns-in-None-clause-value c =
    sym (ap list_directive (c.in-Some.ensures.cut
    ∙ ap (λ (ws : List (List ℕ)). c.in-Some.package.now ∷ ws) (c.in-Some-split_word.ensures.cut
    ∙ ap (λ (ws : List (List ℕ)). c.in-Some-split_word.version.now ∷ ws) c.in-None.ensures.cut)))
