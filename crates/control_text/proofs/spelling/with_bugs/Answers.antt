use Rattle.std.proofs.Common.{◌∷◌, [], map}
use Rattle.control_text.specs.Spelling.{bug_text}
use Rattle.control_text.proofs.SpacedLemmas.{joined_more}
use Rattle.control_text.proofs.spelling.with_bugs.Goals as goal

pub returns : goal.returns
returns c =
    joined_more _ _ c.args.word.now (bug_text c.args.bug ∷ []) (map bug_text c.args.others.now) c.in_ok-line.ensures
    c.in_ok-push_bugs.ensures
