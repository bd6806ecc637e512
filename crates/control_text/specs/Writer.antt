-- What a writer of lines holds, and how it grows.
-- What the lines are is said in `Lines`.
use Rattle.std.specs.Prelude.{◌≡◌, ℕ, ◌&&◌, if◌then◌else◌, Bool, true, false, List, [], ◌∷◌, ◌++◌}
use Rattle.std.specs.Prelude.{map, Option, Some, None, ⊤}
use Rattle.std.specs.Option.{option_copied}
use Rattle.std.specs.String.{string_bytes}
use Rattle.control_text.specs.Tokens.{Text, text_of, ends_command}
use Rattle.control_text.specs.BugPlaces.{takes_bugs, is_it, is_bug_word}
use Rattle.control_text.specs.declared.bug_places.Place.{Place}
use Rattle.control_text.specs.declared.bug_places.Place.TheVariants.{First, Second, Later}
use Rattle.control_text.specs.declared.writer.Writer.{Writer}
use Rattle.control_text.specs.declared.fault.WordsFault.{WordsFault}
use Rattle.control_text.specs.declared.fault.WordsFault.TheVariants.{BadWord, NoCommand}
use Rattle.control_text.specs.declared.fault.WordsFault.TheVariants.{ItUnset, Memory}

-- where the word after this one stands in its command
abbrev pub place_after : Place → Text → Place
place_after First word = Second (takes_bugs word)
place_after (Second bugs) word = Later bugs
place_after (Later bugs) word = Later bugs

abbrev pub stands_for_bug : Place → Bool
stands_for_bug First = false
stands_for_bug (Second bugs) = true
stands_for_bug (Later bugs) = bugs

abbrev pub is_begun : Place → Bool
is_begun First = false
is_begun (Second bugs) = true
is_begun (Later bugs) = true

-- the lines of the commands that have ended, the line of the one being read, where its next word
-- stands, and the last bug word at a bug place
pub record State : Type 0 where
  pub lines : List Text
  pub line : Text
  pub place : Place
  pub last : Option Text

abbrev pub state_of : Writer → State
state_of w = record {
  lines = map string_bytes w.lines.items;
  line = string_bytes w.line;
  place = w.place;
  last = option_copied w.last;
}

abbrev pub start : State
start = record { lines = []; line = []; place = First; last = None }

-- the word that is written for a word at a place, if there is one
abbrev pub meant_at : Place → Option Text → Text → Option Text
meant_at place last word = if stands_for_bug place && is_it word then last else Some word

abbrev pub line_with : Place → Text → Text → Text
line_with place line word = if is_begun place then line ++ (32 ∷ word) else word

-- the word at the end of the line
abbrev pub with_line : State → Text → State
with_line s word = record s { line = line_with s.place s.line word }

abbrev pub last_with : Place → Option Text → Text → Option Text
last_with place last word = if stands_for_bug place && is_bug_word word then Some word else last

-- one more word of the command, which is written as this one
abbrev pub with_word : State → Text → Text → State
with_word s word written = record {
  lines = s.lines;
  line = line_with s.place s.line written;
  place = place_after s.place word;
  last = last_with s.place s.last word;
}

abbrev pub with_meant : State → Text → Option Text → Option State
with_meant s word (Some written) = Some (with_word s word written)
with_meant s word None = None

-- one more word of the command; none where it is an `it` with no bug to stand for
abbrev pub taken : State → Text → Option State
taken s word = with_meant s word (meant_at s.place s.last word)

-- a text, which is no word where it is empty
abbrev pub text_taken : State → Text → Option State
text_taken s [] = Some s
text_taken s (c ∷ text) = taken s (c ∷ text)

-- a separator: the command ends, if it has begun
abbrev pub ended : State → State
ended s = if is_begun s.place
    then record { lines = s.lines ++ s.line ∷ []; line = []; place = First; last = s.last }
    else s

abbrev pub then_ended : Bool → Option State → Option State
then_ended ends None = None
then_ended ends (Some s) = Some (if ends then ended s else s)

-- one more word that was handed in
abbrev pub read : State → Text → Option State
read s word = then_ended (ends_command word) (text_taken s (text_of word))

-- why the word at a place is not read: no memory, or an `it` with no bug to stand for
abbrev pub IsUnsetAt : ℕ → Option State → WordsFault → Type 0
IsUnsetAt place after Memory = ⊤
IsUnsetAt place after (ItUnset i) = (i ≡ place) × (after ≡ None)
IsUnsetAt place after NoCommand = ⊥
IsUnsetAt place after (BadWord i) = ⊥
