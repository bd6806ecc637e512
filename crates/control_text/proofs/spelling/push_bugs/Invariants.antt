use Rattle.std.proofs.Common.{◌≡◌, ◌++◌, map, drop, string_bytes}
use Rattle.control_text.specs.Spelling.{bug_text}
use Rattle.control_text.specs.Spaces.{after_spaces}
use Rattle.control_text.proofs.spelling.push_bugs.Given as goal

abbrev pub invariant-loop-bug : goal.invariant-loop-bug
invariant-loop-bug l =
    string_bytes l.line ++ after_spaces (map bug_text (drop l.bug-index l.bugs))
    ≡ string_bytes l.fn.line ++ after_spaces (map bug_text l.bugs)
