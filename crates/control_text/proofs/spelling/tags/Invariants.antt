use Rattle.std.proofs.Common.{◌≡◌, ◌∷◌, ◌++◌, map, drop, string_bytes, codes}
use Rattle.control_text.specs.Spelling.{bug_text, step_text}
use Rattle.control_text.specs.Spaces.{after_spaces}
use Rattle.control_text.proofs.spelling.tags.Given as goal

abbrev pub invariant-loop-step : goal.invariant-loop-step
invariant-loop-step l =
    string_bytes l.line ++ after_spaces (map step_text (drop l.step-index l.steps)) ≡ codes "tags"
    ++ after_spaces (bug_text l.fn.bug ∷ map step_text l.steps)
