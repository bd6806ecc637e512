use Rattle.std.proofs.Common.{◌≡◌, ◌++◌, map, drop, string_bytes}
use Rattle.control_text.specs.Spelling.{name_text}
use Rattle.control_text.specs.Spaces.{after_spaces}
use Rattle.control_text.proofs.spelling.push_names.Given as goal

abbrev pub invariant-loop-name : goal.invariant-loop-name
invariant-loop-name l =
    string_bytes l.line ++ after_spaces (map name_text (drop l.name-index l.names))
    ≡ string_bytes l.fn.line ++ after_spaces (map name_text l.names)
