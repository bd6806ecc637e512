-- A script: its parts, what is written for them, and the desk that they leave.
-- This project's own rule.
use Rattle.std.specs.Prelude.{ℕ, ◌==◌, Bool, true, false, ◌||◌, List, [], ◌∷◌, ◌++◌, Option, Some, None, Result, Ok, Err, codes}
use Rattle.std.specs.Prelude.{if◌then◌else◌}
use Rattle.std.specs.List.{list_any}
use Rattle.std.specs.Str.{bytes_eq}
use Rattle.base_words.specs.Texts.{is_text}
use Rattle.bug_record.specs.Desk.{Desk}
use Rattle.base_words.specs.Words.{has_bytes, words, trimmed, first_word, after_word}
use Rattle.base_words.specs.Numbers.{number_of_word}
use Rattle.desk_text.specs.Answers.{report_answer, branch_answer, bad_version_answer, bad_directive_answer}
use Rattle.bug_record.specs.declared.outcome.Outcome.{Outcome}
use Rattle.bug_record.specs.declared.outcome.Outcome.TheVariants as outcomes
use Rattle.base_faults.specs.declared.store_fault.End.{End}
use Rattle.base_faults.specs.declared.store_fault.End.TheVariants as ends
use Rattle.store_contract.specs.Message.{Entry, Machine, after_lines, at_start, end_of}
use Rattle.control_lines.specs.Lines.{lines_of}
use Rattle.message_directives.specs.Transcripts.{received_text}
use Rattle.version_nodes.specs.Trees.{Ancestry}
use Rattle.message_directives.specs.Reports.{report_of}
use Rattle.message_directives.specs.Questions.{Told, list_told, page_told}
use Rattle.message_directives.specs.Branches.{BranchRefusal, BadNode, Refused, branch_of}
use Rattle.desk_text.specs.declared.report_fault.ReportFault.{ReportFault}
use Rattle.desk_run.specs.declared.script.ScriptEnd.{ScriptEnd}
use Rattle.desk_run.specs.declared.script.ScriptEnd.TheVariants as script_ends

-- a message, by its lines, or the line of a directive
pub data Part : Type 0 where
  Message : List (List ℕ) → Part
  DirectiveLine : List ℕ → Part

-- a line whose first byte is `@`
abbrev pub is_directive : List ℕ → Bool
is_directive [] = false
is_directive (c ∷ s) = c == 64

-- a line at the front of the first message
abbrev pub with_line : List ℕ → List Part → List Part
with_line line (Message lines ∷ parts) = Message (line ∷ lines) ∷ parts
with_line line parts = Message (line ∷ []) ∷ parts

-- The parts of these lines: each line that begins with `@` is a directive, and the lines before,
-- between and after directives are messages, which may have no line.
abbrev pub parts_of_lines : List (List ℕ) → List Part
parts_of_lines [] = Message [] ∷ []
parts_of_lines (line ∷ lines) =
    if is_directive line then Message [] ∷ DirectiveLine line ∷ parts_of_lines lines else with_line line (parts_of_lines lines)

unfoldable pub script_of : List ℕ → List Part
script_of input = parts_of_lines (lines_of input)

-- what a directive's line says
pub data Directive : Type 0 where
  From : List ℕ → Directive
  Report : List ℕ → Option (List ℕ) → List ℕ → List ℕ → Directive
  Branch : List (List ℕ) → Directive
  ListOf : List ℕ → List ℕ → Directive
  Show : ℕ → Directive
  Bad : Directive

-- `@from TEXT`, where the text has 1 to 200 bytes
abbrev pub from_directive : List ℕ → Directive
from_directive text = if is_text text then From text else Bad

-- a version is a word, and `-` is none
abbrev pub given_version : List ℕ → Option (List ℕ)
given_version word = if bytes_eq word (codes "-") then None else Some word

-- `@report package version severity title`: three words, and the rest of the line without outer
-- blanks
abbrev pub report_directive : List ℕ → Directive
report_directive text =
    let after_package = after_word text in
    let after_version = after_word after_package in
    let severity = first_word after_version in
    if has_bytes severity
    then Report (first_word text) (given_version (first_word after_package)) severity (trimmed (after_word after_version))
    else Bad

-- `@list package version`: exactly two words
abbrev pub list_directive : List (List ℕ) → Directive
list_directive (package_name ∷ version ∷ []) = ListOf package_name version
list_directive words = Bad

abbrev pub show_directive_of : Option ℕ → Directive
show_directive_of None = Bad
show_directive_of (Some number) = Show number

-- `@show n`: exactly one word, which is a number word
abbrev pub show_directive : List (List ℕ) → Directive
show_directive (word ∷ []) = show_directive_of (number_of_word word)
show_directive words = Bad

-- what a line says that begins with `@`
unfoldable pub directive_of : List ℕ → Directive
directive_of line =
    if bytes_eq (first_word line) (codes "@from") then from_directive (trimmed (after_word line))
    else if bytes_eq (first_word line) (codes "@report") then report_directive (after_word line)
    else if bytes_eq (first_word line) (codes "@branch") then Branch (words (after_word line))
    else if bytes_eq (first_word line) (codes "@list") then list_directive (words (after_word line))
    else if bytes_eq (first_word line) (codes "@show") then show_directive (words (after_word line))
    else Bad

-- where a script stands between two parts: the desk, the current sender, and whether anything was
-- refused
pub record Standing : Type 0 where
  pub desk : Desk
  pub sender : List ℕ
  pub refused : Bool

abbrev pub standing : Desk → List ℕ → Bool → Standing
standing d sender refused = record { desk = d; sender = sender; refused = refused }

-- where a script begins; the sender is `nobody`
abbrev pub begin : Desk → Standing
begin d = standing d (codes "nobody") false

-- the answer to a report: the number of the new bug, or the refusal
abbrev pub report_text : Result Desk ReportFault → ℕ → List ℕ
report_text (Ok new) number = report_answer (Ok number)
report_text (Err refusal) number = report_answer (Err refusal)

abbrev pub after_report : Result Desk ReportFault → Standing → Standing
after_report (Ok new) s = standing new s.sender s.refused
after_report (Err refusal) s = standing s.desk s.sender true

-- the answer to a branch: `OK`, or the refusal
abbrev pub branch_text : Result Ancestry BranchRefusal → List ℕ
branch_text (Ok tree) = branch_answer (Ok (Ok tt))
branch_text (Err BadNode) = bad_version_answer
branch_text (Err (Refused fault)) = branch_answer (Ok (Err fault))

abbrev pub after_branch : Result Ancestry BranchRefusal → Standing → Standing
after_branch (Ok tree) s = standing (record s.desk { tree = tree }) s.sender s.refused
after_branch (Err refusal) s = standing s.desk s.sender true

-- where a script stands after a question that is told this
abbrev pub after_question : Told → Standing → Standing
after_question told s = standing s.desk s.sender (s.refused || told.refused)

-- what is written for a directive, and where the script stands after it
abbrev pub directive_text : Directive → Standing → List ℕ
directive_text (From sender) s = []
directive_text (Report package_name version severity title) s =
    report_text (report_of s.desk s.sender package_name version severity title) s.desk.next
directive_text (Branch words) s = branch_text (branch_of s.desk.tree words)
directive_text (ListOf package_name version) s = (list_told s.desk package_name version).text
directive_text (Show number) s = (page_told s.desk number).text
directive_text Bad s = bad_directive_answer

abbrev pub after_directive : Directive → Standing → Standing
after_directive (From sender) s = standing s.desk sender s.refused
after_directive (Report package_name version severity title) s =
    after_report (report_of s.desk s.sender package_name version severity title) s
after_directive (Branch words) s = after_branch (branch_of s.desk.tree words) s
after_directive (ListOf package_name version) s = after_question (list_told s.desk package_name version) s
after_directive (Show number) s = after_question (page_told s.desk number) s
after_directive Bad s = standing s.desk s.sender true

-- whether an answer `NO ..` or `Too many unreadable lines.` is among those of a message
abbrev pub is_refused : Outcome → Bool
is_refused (outcomes.Refused refusal) = true
is_refused outcome = false

abbrev pub is_too_many : End → Bool
is_too_many ends.TooManyUnreadable = true
is_too_many end = false

abbrev pub refuses : List Entry → End → Bool
refuses outcomes end = list_any (λ entry. is_refused entry.1) outcomes || is_too_many end

-- what is written for a message that the machine takes to this, and where the script stands after
-- it
abbrev pub message_text : Machine → List (List ℕ) → List ℕ
message_text m lines = received_text m.outcomes (end_of m.outcomes) lines

abbrev pub after_message : Machine → Standing → Standing
after_message m s = standing m.desk s.sender (s.refused || refuses m.outcomes (end_of m.outcomes))

-- what is written for a part, over the desk that the parts before it leave, and where the script
-- stands after it
unfoldable pub part_text : Part → Standing → List ℕ
part_text (Message lines) s = message_text (after_lines s.sender (at_start s.desk) lines) lines
part_text (DirectiveLine line) s = directive_text (directive_of line) s

unfoldable pub part_after : Part → Standing → Standing
part_after (Message lines) s = after_message (after_lines s.sender (at_start s.desk) lines) s
part_after (DirectiveLine line) s = after_directive (directive_of line) s

-- the texts of the parts, one after another, and where the script stands after them
unfoldable pub text_of : List Part → Standing → List ℕ
text_of [] s = []
text_of (part ∷ parts) s = part_text part s ++ text_of parts (part_after part s)

unfoldable pub after_parts : List Part → Standing → Standing
after_parts [] s = s
after_parts (part ∷ parts) s = after_parts parts (part_after part s)

-- the end of a script
abbrev pub end_of_script : Bool → ScriptEnd
end_of_script true = script_ends.Refused
end_of_script false = script_ends.Accepted
