use Rattle.std.proofs.Common.{◌≡◌, ◌++◌, drop, string_bytes}
use Rattle.control_text.specs.Spaces.{after_spaces}
use Rattle.control_text.proofs.spelling.push_packages.Given as goal

abbrev pub invariant-loop-name : goal.invariant-loop-name
invariant-loop-name l =
    string_bytes l.line ++ after_spaces (drop l.name-index l.names) ≡ string_bytes l.fn.line ++ after_spaces l.names
