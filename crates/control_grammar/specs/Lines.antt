-- The lines of a control message (the BTS page 'control and manipulation').
use Rattle.std.specs.Prelude.{ℕ, ◌==◌, ◌&&◌, ◌||◌, codes, if◌then◌else◌, Bool, false, List, [], ◌∷◌, IsSome, Result, Ok, Err, ⊤}
use Rattle.std.specs.List.{list_any}
use Rattle.std.specs.Option.{ok_or}
use Rattle.base_words.specs.Blanks.{is_control}
use Rattle.base_words.specs.AnyCase.{is_word}
use Rattle.bug_record.specs.declared.command.Refusal.{Refusal}
use Rattle.bug_record.specs.declared.command.Refusal.TheVariants.{Unknown, Malformed, TooLong, BadSeverity, BadTag, BadVersion}
use Rattle.bug_record.specs.declared.command.Refusal.TheVariants.{BadPackage, NoName, NoBug, Differ}
use Rattle.bug_record.specs.declared.command.Refusal.TheVariants.{Archived, NotArchived, NotMerged, Merged, NameTaken, OwnSet}
use Rattle.bug_record.specs.declared.command.Refusal.TheVariants.{NotDone, StillFound, Full}
use Rattle.base_words.specs.Words.{words, first_word, after_word}
use Rattle.control_grammar.specs.CommandWords.{command_word}
use Rattle.control_grammar.specs.Commands.{and_read, command_of}
use Rattle.control_grammar.specs.declared.command_word.CommandWord.{CommandWord}
use Rattle.control_grammar.specs.declared.line.Line.{Line}
use Rattle.control_grammar.specs.declared.line.Line.TheVariants.{Blank, Comment, Stop, Do}

-- a comment's first word begins with `#`; that blanks may stand before it is this project's own
-- rule
abbrev pub begins_hash : List ℕ → Bool
begins_hash [] = false
begins_hash (c ∷ s) = c == 35

-- the words that stop a message, in any ASCII case
abbrev pub is_stop_word : List ℕ → Bool
is_stop_word word =
    is_word word (codes "quit") || is_word word (codes "stop") || is_word word (codes "thank")
    || is_word word (codes "thanks") || is_word word (codes "thankyou") || is_word word (codes "--")

-- a stop is one such word, or `thank you`
abbrev pub is_stop_line : List (List ℕ) → Bool
is_stop_line (word ∷ []) = is_stop_word word
is_stop_line (word ∷ second ∷ []) = is_word word (codes "thank") && is_word second (codes "you")
is_stop_line _ = false

-- A line that begins with this command: it may hold no control character other than tab.
-- The arguments are the text after the first word.
abbrev pub command_reading : CommandWord → List ℕ → Result Line Refusal
command_reading command text =
    if list_any is_control text then Err Malformed
    else and_read (command_of command (after_word text)) (λ meant. Ok (Do meant))

-- What a line of these words says: the first of these cases that fits.
-- That only a command's line is tested for control characters is this project's own rule.
abbrev pub reading_of_words : List ℕ → List (List ℕ) → Result Line Refusal
reading_of_words text [] = Ok Blank
reading_of_words text (word ∷ arguments) =
    if begins_hash word then Ok Comment
    else if is_stop_line (word ∷ arguments) then Ok Stop
    else and_read (ok_or (command_word word) Unknown) (λ command. command_reading command text)

-- The line, or the refusal, that a text gives: every text gives just one.
unfoldable pub reading : List ℕ → Result Line Refusal
reading text = reading_of_words text (words text)

-- the refusals of a line, which need no desk
abbrev pub IsRefusalOfLine : Refusal → Type 0
IsRefusalOfLine Unknown = ⊤
IsRefusalOfLine Malformed = ⊤
IsRefusalOfLine TooLong = ⊤
IsRefusalOfLine BadSeverity = ⊤
IsRefusalOfLine BadTag = ⊤
IsRefusalOfLine BadVersion = ⊤
IsRefusalOfLine BadPackage = ⊤
IsRefusalOfLine (NoName k) = ⊥
IsRefusalOfLine (NoBug n) = ⊥
IsRefusalOfLine (Differ field n) = ⊥
IsRefusalOfLine (Archived n) = ⊥
IsRefusalOfLine (NotArchived n) = ⊥
IsRefusalOfLine (NotMerged n) = ⊥
IsRefusalOfLine (Merged n) = ⊥
IsRefusalOfLine (NameTaken k) = ⊥
IsRefusalOfLine (OwnSet n) = ⊥
IsRefusalOfLine (NotDone n) = ⊥
IsRefusalOfLine (StillFound node) = ⊥
IsRefusalOfLine Full = ⊥

-- the line's first word is a command
abbrev pub BeginsWithCommand : List ℕ → Type 0
BeginsWithCommand text = IsSome (command_word (first_word text))
