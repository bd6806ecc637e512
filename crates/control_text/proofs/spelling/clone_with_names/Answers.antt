use Rattle.std.proofs.Common.{◌∷◌, [], map, codes}
use Rattle.control_text.specs.Spelling.{bug_text, name_text}
use Rattle.control_text.proofs.SpacedLemmas.{joined_more}
use Rattle.control_text.proofs.spelling.clone_with_names.Goals as goal

pub returns : goal.returns
returns c =
    joined_more _ _ (codes "clone") (bug_text c.args.bug ∷ []) (map name_text c.args.names.now) c.in_ok-line.ensures
    c.in_ok-push_names.ensures
