-- What is answered where the store fails, or there is no memory.
-- This project's own rule.
use Rattle.std.specs.Prelude.{ℕ, ◌≡◌, ◌≢◌, ◌⊎◌, List, take, Option, Some, None, ⊤}
use Rattle.version_nodes.specs.Nodes.{Node}
use Rattle.bug_record.specs.Desk.{Desk}
use Rattle.base_faults.specs.declared.store_fault.StoreFault.{StoreFault}
use Rattle.base_faults.specs.declared.store_fault.StoreFault.TheVariants.{Memory}
use Rattle.base_faults.specs.declared.store_fault.End.TheVariants as ends
use Rattle.control_lines.specs.Lines.{lines_of}
use Rattle.http_routes.specs.Members.{Control}
use Rattle.store_contract.specs.Store.{Faults, counted}
use Rattle.store_contract.specs.Message.{Entry, IsReceived, at_start, after_lines}
use Rattle.message_directives.specs.Questions.{AsksForList}
use Rattle.message_directives.specs.Branches.{nodes_of}
use Rattle.http_requests.specs.Answer.{Answer, json_answer, store_fault}
use Rattle.http_requests.specs.Requests.{Request, PostBug, PostControl, PostBranch, GetBug, GetList}
use Rattle.http_answers.specs.Answers.{answer_to, message_json}

-- The store is asked: of a branch only where all its words are nodes, of a list only where its
-- words give a node.
abbrev pub AsksStore : Request → Type 0
AsksStore (PostBug report) = ⊤
AsksStore (PostControl control) = ⊤
AsksStore (PostBranch words) = (nodes : List Node) × (nodes_of words ≡ Some nodes)
AsksStore (GetBug n) = ⊤
AsksStore (GetList name version) = AsksForList name version

-- some lines of the message from the first, none or all, were taken
abbrev pub IsAfterLines : Control → Desk → Desk → Type 0
IsAfterLines c old new =
    (count : ℕ) × (new ≡ (after_lines c.from (at_start old) (take count (lines_of c.message))).desk)

-- The store failed at a line of the message, and memory had not run out: the lines before it were
-- taken, and the answer has their transcript and tells the fault.
pub record TellsCut (c : Control) (old : Desk) (fault : StoreFault) (answer : Answer) (new : Desk) :
    Type 0 where
  pub outcomes : List Entry
  pub line : ℕ
  pub not_memory : fault ≢ Memory
  pub received : IsReceived c.from (lines_of c.message) old outcomes (ends.Store fault line) new
  pub is : answer ≡ json_answer 500 (message_json outcomes (ends.Store fault line) (lines_of c.message))

-- the fixed answer, and no change; the store was asked if it was the store that failed
pub record IsFixed (request : Request) (old : Desk) (fault : StoreFault) (answer : Answer)
    (new : Desk) : Type 0 where
  pub is : answer ≡ store_fault
  pub same : new ≡ old
  pub asked : fault ≢ Memory → AsksStore request

-- a message at which this fault was met: its transcript, or the fixed answer
abbrev pub IsCut : Control → Desk → StoreFault → Answer → Desk → Type 0
IsCut c old fault answer new =
    TellsCut c old fault answer new ⊎ ((answer ≡ store_fault) × IsAfterLines c old new)

-- What is answered where this fault is met, and the desk after it: of a message some lines may have
-- been taken, and any other request changes nothing.
abbrev pub IsFaulted : Request → Desk → StoreFault → Answer → Desk → Type 0
IsFaulted (PostControl c) old fault answer new = IsCut c old fault answer new
IsFaulted (PostBug report) old fault answer new = IsFixed (PostBug report) old fault answer new
IsFaulted (PostBranch words) old fault answer new = IsFixed (PostBranch words) old fault answer new
IsFaulted (GetBug n) old fault answer new = IsFixed (GetBug n) old fault answer new
IsFaulted (GetList name version) old fault answer new =
    IsFixed (GetList name version) old fault answer new

-- what a request is answered, where this fault was met or none, and the desk after it
abbrev pub IsAnswer : Request → Desk → Option StoreFault → Answer → Desk → Type 0
IsAnswer request old None answer new = answer_to request old ≡ (answer, new)
IsAnswer request old (Some fault) answer new = IsFaulted request old fault answer new

-- the store's faults, where this fault was met or none
abbrev pub counted_with : Option StoreFault → Faults → Faults
counted_with None faults = faults
counted_with (Some fault) faults = counted fault faults
