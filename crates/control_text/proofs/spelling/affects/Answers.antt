use Rattle.std.proofs.Common.{◌∷◌, [], codes, ap, ◌∙◌}
use Rattle.control_text.specs.Spelling.{bug_text, affects_sign, joined_by_blanks}
use Rattle.control_text.proofs.SpacedLemmas.{joined_more}
use Rattle.control_text.proofs.spelling.affects.Goals as goal

pub returns : goal.returns
returns c =
    joined_more _ _ (codes "affects") (bug_text c.args.bug ∷ affects_sign c.args.step ∷ []) c.args.names.now
    (c.in_ok-line.ensures ∙ ap (λ sign. joined_by_blanks (codes "affects" ∷ bug_text c.args.bug ∷ sign ∷ [])) c.affects_sign.ensures) c.in_ok-push_packages.ensures
