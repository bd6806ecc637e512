-- Where the words of a command stand for bugs.
-- The commands are those of the BTS page 'control and manipulation'; which places are bug places is
-- this project's own rule.
use Rattle.std.specs.Prelude.{◌||◌, ◌&&◌, Bool, true, false, List, [], ◌∷◌, map, codes, is_some}
use Rattle.base_words.specs.AnyCase.{is_word}
use Rattle.base_words.specs.Bugs.{bug_of_word}
use Rattle.control_text.specs.Tokens.{Text, Word}

-- the commands all of whose words after the first are at bug places
abbrev pub takes_bugs : Text → Bool
takes_bugs first = is_word first (codes "merge") || is_word first (codes "forcemerge")
    || is_word first (codes "block") || is_word first (codes "unblock")

-- a word of a command, and whether it stands at a bug place
pub record Marked : Type 0 where
  pub word : Word
  pub at_bug_place : Bool

abbrev pub mark : Bool → Word → Marked
mark at_bug_place word = record { word = word; at_bug_place = at_bug_place }

-- The bug places of a command: the second word, and the words after it where the command takes
-- bugs alone.
abbrev pub marked : List Word → List Marked
marked [] = []
marked (first ∷ []) = mark false first ∷ []
marked (first ∷ second ∷ others) =
    mark false first ∷ mark true second ∷ map (mark (takes_bugs first.text)) others

abbrev pub is_it : Text → Bool
is_it text = is_word text (codes "it")

-- a number word or a name word
abbrev pub is_bug_word : Text → Bool
is_bug_word text = is_some (bug_of_word text)

-- an `it` at a bug place
abbrev pub stands_for_last : Marked → Bool
stands_for_last m = m.at_bug_place && is_it m.word.text

-- a bug word at a bug place
abbrev pub names_bug : Marked → Bool
names_bug m = m.at_bug_place && is_bug_word m.word.text
