-- The lines that words stand for, and why they stand for none.
-- The word `it` is bts(1)'s; what it stands for, and the faults, are this project's own rule.
use Rattle.std.specs.Prelude.{ℕ, ◌≡◌, ⊤, if◌then◌else◌, List, [], ◌∷◌, map, fold, unwrap_or}
use Rattle.std.specs.Prelude.{Option, Some, None, option_map}
use Rattle.std.specs.List.{flat_map, join_with_byte, list_any, position}
use Rattle.base_words.specs.Blanks.{is_control}
use Rattle.control_text.specs.Tokens.{Text, Word, commands}
use Rattle.control_text.specs.BugPlaces.{Marked, marked, stands_for_last, names_bug}
use Rattle.control_text.specs.declared.fault.WordsFault.{WordsFault}
use Rattle.control_text.specs.declared.fault.WordsFault.TheVariants.{BadWord, NoCommand}
use Rattle.control_text.specs.declared.fault.WordsFault.TheVariants.{ItUnset, Memory}

-- the last bug word at a bug place, where a word follows those that had `last`
abbrev pub last_after : Option Text → Marked → Option Text
last_after last m = if names_bug m then Some m.word.text else last

-- a word as it is written: an `it` at a bug place is the last bug word before it
abbrev pub meant : Option Text → Marked → Text
meant last m = if stands_for_last m then unwrap_or last m.word.text else m.word.text

-- the words of a command as they are written
abbrev pub meant_words : Option Text → List Marked → List Text
meant_words last [] = []
meant_words last (m ∷ ms) = meant last m ∷ meant_words (last_after last m) ms

-- the line of a command: its words with one space between two
abbrev pub line_of : Option Text → List Marked → Text
line_of last command = join_with_byte 32 (meant_words last command)

-- the lines of commands
abbrev pub lines_after : Option Text → List (List Marked) → List Text
lines_after last [] = []
lines_after last (command ∷ more) =
    line_of last command ∷ lines_after (fold last_after last command) more

abbrev pub lines : List Text → List Text
lines words = lines_after None (map marked (commands words))

-- The place of the first `it` at a bug place, where no bug word at a bug place stands before it.
abbrev pub unset_it : List Marked → Option ℕ
unset_it [] = None
unset_it (m ∷ ms) =
    if stands_for_last m then Some m.word.place
    else (if names_bug m then None else unset_it ms)

-- a word with a control character other than tab
abbrev pub bad_word : List Text → Option ℕ
bad_word words = position (list_any is_control) words

-- the fault of commands: none is there, or an `it` has no bug to stand for
abbrev pub command_fault : List (List Word) → Option WordsFault
command_fault [] = Some NoCommand
command_fault (command ∷ more) = option_map ItUnset (unset_it (flat_map marked (command ∷ more)))

abbrev pub bad_word_or : Option ℕ → Option WordsFault → Option WordsFault
bad_word_or (Some place) fault = Some (BadWord place)
bad_word_or None fault = fault

-- why words are no lines: a bad word, before all else
abbrev pub first_fault : List Text → Option WordsFault
first_fault words = bad_word_or (bad_word words) (command_fault (commands words))

-- The fault is the first one, or memory was refused.
abbrev pub IsFaultOf : List Text → WordsFault → Type 0
IsFaultOf words Memory = ⊤
IsFaultOf words (BadWord place) = first_fault words ≡ Some (BadWord place)
IsFaultOf words NoCommand = first_fault words ≡ Some NoCommand
IsFaultOf words (ItUnset place) = first_fault words ≡ Some (ItUnset place)
