-- What requests are answered in each case.
use Rattle.std.specs.Prelude.{ℕ, ◌≡◌, ◌≢◌, ◌⊎◌, List, Some, Result, Ok, Err, if◌then◌else◌}
use Rattle.base_faults.specs.declared.store_fault.End.{End}
use Rattle.base_faults.specs.declared.store_fault.End.TheVariants as ends
use Rattle.desk_text.specs.declared.report_fault.ReportFault.{ReportFault}
use Rattle.desk_text.specs.declared.report_fault.ReportFault.TheVariants as reports
use Rattle.base_faults.specs.declared.store_fault.StoreFault.{StoreFault}
use Rattle.base_faults.specs.declared.store_fault.StoreFault.TheVariants.{Memory}
use Rattle.store_contract.specs.Message.{Entry}
use Rattle.message_directives.specs.declared.told.Told.{Told}
use Rattle.message_directives.specs.declared.told.QuestionFault.{QuestionFault}
use Rattle.message_directives.specs.declared.told.QuestionFault.TheVariants as questions
use Rattle.http_requests.specs.Answer.{Answer, json_answer, page_answer, not_found}
use Rattle.desk_text.specs.Answers.{report_refusal}
use Rattle.http_answers.specs.Answers.{refused_answer, message_json}
use Rattle.http_requests.specs.Shown.{shown}
use Rattle.http_requests.specs.Steps.{Fails, Gives}
use Rattle.http_requests.specs.declared.reply.Reply.{Reply}

-- this answer, or there was no memory for it
abbrev pub GivesOrFails : Answer → Reply → Type 0
GivesOrFails answer reply = Gives answer reply ⊎ Fails Memory reply

-- a report that was not taken
abbrev pub RefusesReport : ReportFault → Reply → Type 0
RefusesReport (reports.Store fault) reply = Fails fault reply
RefusesReport refusal reply = GivesOrFails (refused_answer (report_refusal refusal)) reply

-- this answer to a fault other than out of memory, or the fixed one
abbrev pub TellsFault : Answer → StoreFault → Reply → Type 0
TellsFault answer fault reply =
    ((fault ≢ Memory) × (shown reply ≡ answer) × (reply.fault ≡ Some fault)) ⊎ Fails fault reply

-- a message that ended so
abbrev pub AnswersEnd : List Entry → End → List (List ℕ) → Reply → Type 0
AnswersEnd outcomes (ends.Store fault line) lines reply =
    TellsFault (json_answer 500 (message_json outcomes (ends.Store fault line) lines)) fault reply
AnswersEnd outcomes ends.All lines reply =
    GivesOrFails (json_answer 200 (message_json outcomes ends.All lines)) reply
AnswersEnd outcomes ends.Stopped lines reply =
    GivesOrFails (json_answer 200 (message_json outcomes ends.Stopped lines)) reply
AnswersEnd outcomes ends.TooManyUnreadable lines reply =
    GivesOrFails (json_answer 200 (message_json outcomes ends.TooManyUnreadable lines)) reply

-- what a question was told
abbrev pub AnswersQuestion : Result Told QuestionFault → Reply → Type 0
AnswersQuestion (Ok told) reply = Gives (if told.refused then not_found else page_answer told.text.items) reply
AnswersQuestion (Err questions.Memory) reply = Fails Memory reply
AnswersQuestion (Err (questions.Store fault)) reply = Fails fault reply
