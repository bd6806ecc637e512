-- What a request is answered on a desk, and the desk after it, where the store has no fault and
-- memory does not run out.
-- This project's own rule.
use Rattle.std.specs.Prelude.{ℕ, List, Result, Ok, Err, codes, if◌then◌else◌}
use Rattle.version_nodes.specs.Trees.{Ancestry}
use Rattle.bug_record.specs.Desk.{Desk}
use Rattle.desk_text.specs.Answers.{report_refusal, nodes_refusal}
use Rattle.base_faults.specs.declared.store_fault.End.{End}
use Rattle.base_faults.specs.declared.store_fault.End.TheVariants as ends
use Rattle.desk_text.specs.declared.report_fault.ReportFault.{ReportFault}
use Rattle.control_lines.specs.Lines.{lines_of}
use Rattle.store_contract.specs.Message.{Entry, Machine, at_start, after_lines, end_of}
use Rattle.message_directives.specs.Questions.{Told, page_told, list_told}
use Rattle.message_directives.specs.Reports.{report_of}
use Rattle.message_directives.specs.Transcripts.{received_text}
use Rattle.message_directives.specs.Branches.{BranchRefusal, BadNode, Refused, branch_of}
use Rattle.http_routes.specs.Answers.{bug_json, error_json, control_json, ok_json}
use Rattle.http_requests.specs.Answer.{Answer, json_answer, page_answer, not_found}
use Rattle.http_requests.specs.Requests.{Request, PostBug, PostControl, PostBranch, GetBug, GetList}

-- why a branch of words is refused
abbrev pub branch_refusal : BranchRefusal → List ℕ
branch_refusal BadNode = codes "bad version"
branch_refusal (Refused fault) = nodes_refusal fault

-- a refusal
abbrev pub refused_answer : List ℕ → Answer
refused_answer text = json_answer 400 (error_json text)

-- a report: the number of the new bug, or the refusal
abbrev pub answered_report : Result Desk ReportFault → Desk → Answer × Desk
answered_report (Ok new) old = (json_answer 201 (bug_json old.next), new)
answered_report (Err fault) old = (refused_answer (report_refusal fault), old)

-- how a message ended
abbrev pub end_word : End → List ℕ
end_word ends.All = codes "all"
end_word ends.Stopped = codes "stopped"
end_word ends.TooManyUnreadable = codes "unreadable"
end_word (ends.Store fault line) = codes "store"

-- the end of a message and its transcript
unfoldable pub message_json : List Entry → End → List (List ℕ) → List ℕ
message_json outcomes end lines =
    control_json (end_word end) (received_text outcomes end lines)

abbrev pub answered_message : Machine → List (List ℕ) → Answer × Desk
answered_message m lines =
    (json_answer 200 (message_json m.outcomes (end_of m.outcomes) lines), m.desk)

-- a branch: that it was taken, or the refusal
abbrev pub answered_branch : Result Ancestry BranchRefusal → Desk → Answer × Desk
answered_branch (Ok tree) old = (json_answer 200 ok_json, record old { tree = tree })
answered_branch (Err refusal) old = (refused_answer (branch_refusal refusal), old)

-- a question: the text, or that there is no such thing
abbrev pub answered_question : Told → Desk → Answer × Desk
answered_question told old = (if told.refused then not_found else page_answer told.text, old)

-- the answer to a request, and the desk after it
abbrev pub answer_to : Request → Desk → Answer × Desk
answer_to (PostBug r) d =
    answered_report (report_of d r.from r.«package» r.version r.severity r.title) d
answer_to (PostControl c) d =
    answered_message (after_lines c.from (at_start d) (lines_of c.message)) (lines_of c.message)
answer_to (PostBranch words) d = answered_branch (branch_of d.tree words) d
answer_to (GetBug n) d = answered_question (page_told d n) d
answer_to (GetList name version) d = answered_question (list_told d name version) d
