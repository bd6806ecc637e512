-- An `it` of a command line that has no bug to stand for.
-- This project's own rule.
use Rattle.std.specs.Prelude.{ℕ, ◌≡◌, ⊤, List}
use Rattle.std.specs.Prelude.{Option, Some}
use Rattle.std.specs.List.{flat_map}
use Rattle.control_text.specs.Tokens.{Text, commands}
use Rattle.control_text.specs.BugPlaces.{marked}
use Rattle.control_text.specs.declared.fault.WordsFault.{WordsFault}
use Rattle.control_text.specs.declared.fault.WordsFault.TheVariants.{BadWord, NoCommand}
use Rattle.control_text.specs.declared.fault.WordsFault.TheVariants.{ItUnset, Memory}
use Rattle.control_text.specs.WordLines.{unset_it}

abbrev pub unset : List Text → Option ℕ
unset words = unset_it (flat_map marked (commands words))

-- An `it` has no bug to stand for, or memory was refused.
abbrev pub IsUnsetIn : List Text → WordsFault → Type 0
IsUnsetIn words Memory = ⊤
IsUnsetIn words (ItUnset place) = unset words ≡ Some place
IsUnsetIn words NoCommand = ⊥
IsUnsetIn words (BadWord place) = ⊥
