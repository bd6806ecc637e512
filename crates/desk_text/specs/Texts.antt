-- The texts of a transcript.
-- This project's own rule.
use Rattle.std.specs.Prelude.{ℕ, List, [], ◌∷◌, ◌++◌, flat_map, codes}
use Rattle.std.specs.Fmt.{decimal}
use Rattle.bug_record.specs.declared.command.Field.{Field}
use Rattle.bug_record.specs.declared.command.Field.TheVariants as fields
use Rattle.bug_record.specs.declared.command.Refusal.{Refusal}
use Rattle.bug_record.specs.declared.command.Refusal.TheVariants.{Unknown, Malformed, TooLong, BadSeverity, BadTag, BadVersion}
use Rattle.bug_record.specs.declared.command.Refusal.TheVariants.{BadPackage, NoName, NoBug, Archived, NotArchived, Differ}
use Rattle.bug_record.specs.declared.command.Refusal.TheVariants.{NotMerged, Merged, NameTaken, OwnSet, NotDone, StillFound, Full}
use Rattle.version_nodes.specs.Nodes.{Node, node_text}
use Rattle.base_faults.specs.declared.store_fault.StoreFault.{StoreFault}
use Rattle.base_faults.specs.Faults.{fault_word}
use Rattle.bug_record.specs.declared.outcome.Outcome.{Outcome}
use Rattle.bug_record.specs.declared.outcome.Outcome.TheVariants as outcomes
use Rattle.base_faults.specs.declared.store_fault.End.{End}
use Rattle.base_faults.specs.declared.store_fault.End.TheVariants as ends

-- a line of a transcript ends with one line feed
abbrev pub as_line : List ℕ → List ℕ
as_line text = text ++ 10 ∷ []

-- a line as it was written, after `> `
abbrev pub echo : List ℕ → List ℕ
echo line = codes "> " ++ line

-- a field that bugs to be merged have to agree on
abbrev pub field_word : Field → List ℕ
field_word fields.Package = codes "package"
field_word fields.State = codes "state"
field_word fields.Forwarded = codes "forwarded"
field_word fields.Severity = codes "severity"

-- what is said of a bug
unfoldable pub said_of_bug : ℕ → List ℕ → List ℕ
said_of_bug n said = codes "bug " ++ (decimal n ++ said)

-- the bug that can't be merged
unfoldable pub difference_text : ℕ → List ℕ → List ℕ
difference_text n word = said_of_bug n (codes " differs in " ++ word)

-- the head at which the bug to be archived is still found
unfoldable pub still_found_text : Node → List ℕ
still_found_text v = codes "still found in " ++ node_text v

-- a command or a report that asks for more numbers than are left
abbrev pub full_text : List ℕ
full_text = codes "no bug number is left"

-- why a line is refused
abbrev pub refusal_text : Refusal → List ℕ
refusal_text Unknown = codes "unknown command"
refusal_text Malformed = codes "malformed command"
refusal_text TooLong = codes "text too long"
refusal_text BadSeverity = codes "unknown severity"
refusal_text BadTag = codes "unknown tag"
refusal_text BadVersion = codes "bad version"
refusal_text BadPackage = codes "bad package name"
refusal_text (NoName k) = codes "no such name -" ++ decimal k
refusal_text (NoBug n) = codes "no such bug " ++ decimal n
refusal_text (Archived n) = said_of_bug n (codes " is archived")
refusal_text (NotArchived n) = said_of_bug n (codes " is not archived")
refusal_text (Differ field n) = difference_text n (field_word field)
refusal_text (NotMerged n) = said_of_bug n (codes " is not merged")
refusal_text (Merged n) = said_of_bug n (codes " is merged")
refusal_text (NameTaken k) = codes "name -" ++ (decimal k ++ codes " is taken")
refusal_text (OwnSet n) = said_of_bug n (codes " is in the same set")
refusal_text (NotDone n) = said_of_bug n (codes " is open")
refusal_text (StillFound v) = still_found_text v
refusal_text Full = full_text

-- each number after a space
abbrev pub numbers_text : List ℕ → List ℕ
numbers_text ns = flat_map (λ n. 32 ∷ decimal n) ns

-- the changed numbers
abbrev pub changed_text : List ℕ → List ℕ
changed_text [] = codes "OK, no change."
changed_text (n ∷ ns) = codes "OK" ++ numbers_text (n ∷ ns)

-- what is answered to a line
abbrev pub answer_text : Outcome → List ℕ
answer_text (outcomes.Changed numbers) = changed_text numbers
answer_text (outcomes.Refused refusal) = codes "NO " ++ refusal_text refusal
answer_text outcomes.Stopped = codes "Stopped."

-- the two lines of an outcome
abbrev pub outcome_text : List ℕ → Outcome → List ℕ
outcome_text line outcome = as_line (echo line) ++ as_line (answer_text outcome)

-- the answer to a store fault
unfoldable pub fault_answer : StoreFault → List ℕ
fault_answer fault = codes "Store fault: " ++ (fault_word fault ++ codes ".")

-- the line of a store fault
abbrev pub fault_text : StoreFault → List ℕ
fault_text fault = as_line (fault_answer fault)

-- the line at which the store failed, and the fault's line
abbrev pub store_end_text : StoreFault → List ℕ → List ℕ
store_end_text fault line = as_line (echo line) ++ fault_text fault

-- the line that follows the fifth line that could not be read
abbrev pub too_many_text : List ℕ
too_many_text = as_line (codes "Too many unreadable lines.")

-- what follows the last outcome; the line is that at which the store failed
abbrev pub end_text : End → List ℕ → List ℕ
end_text ends.All line = []
end_text ends.Stopped line = []
end_text ends.TooManyUnreadable line = too_many_text
end_text (ends.Store fault k) line = store_end_text fault line
