-- What is told where a desk is asked for a list or a page.
-- This project's own rule.
use Rattle.std.specs.Prelude.{ℕ, ◌≡◌, Bool, true, false, List, Option, Some, None, Result, Ok, Err, is_some, if◌then◌else◌}
use Rattle.debver.specs.Names.{name_fault}
use Rattle.version_nodes.specs.Nodes.{Node, node_at}
use Rattle.bug_record.specs.Desk.{Desk}
use Rattle.bug_record.specs.Lists.{listed}
use Rattle.bug_record.specs.Waiting.{waiting_on}
use Rattle.bug_record.specs.declared.bug.Bug.{Bug}
use Rattle.desk_text.specs.Answers.{bad_package_answer, bad_version_answer, no_bug_answer}
use Rattle.desk_text.specs.Lists.{list_text}
use Rattle.bug_record.specs.Rows.{rows_of}
use Rattle.desk_text.specs.Pages.{page_text}
use Rattle.store_contract.specs.Store.{Faults, counted}
use Rattle.message_directives.specs.declared.told.Told.{Told as ToldBytes}
use Rattle.message_directives.specs.declared.told.QuestionFault.{QuestionFault}
use Rattle.message_directives.specs.declared.told.QuestionFault.TheVariants.{Memory, Store}

-- what is told: a text, and whether it refuses the question
pub record Told : Type 0 where
  pub text : List ℕ
  pub refused : Bool

abbrev pub answered : List ℕ → Told
answered text = record { text = text; refused = false }

abbrev pub refusal : List ℕ → Told
refusal text = record { text = text; refused = true }

-- the list of a package at a node, or that the version is bad
abbrev pub list_at : Desk → List ℕ → Option Node → Told
list_at d package_name None = refusal bad_version_answer
list_at d package_name (Some node) = answered (list_text package_name node (rows_of d.bug (listed d package_name node)))

-- The list of a package at a version, which is bare, or `source/version`; the name of the package
-- is tested first.
unfoldable pub list_told : Desk → List ℕ → List ℕ → Told
list_told d package_name version =
    if is_some (name_fault package_name) then refusal bad_package_answer
    else list_at d package_name (node_at package_name version)

-- the page of the bug n, or that there is no such bug
abbrev pub page_at : Desk → ℕ → Option Bug → Told
page_at d n None = refusal (no_bug_answer n)
page_at d n (Some b) = answered (page_text n b (waiting_on d n))

unfoldable pub page_told : Desk → ℕ → Told
page_told d n = page_at d n (d.bug n)

-- the words of a list give a node, so that the store is asked
abbrev pub AsksForList : List ℕ → List ℕ → Type 0
AsksForList package_name version = (node : Node) × (node_at package_name version ≡ Some node)

-- What is answered, and the desk after it, which is the desk before it: what is told, out of
-- memory, or the store's fault, where it was asked.
abbrev pub IsTold : Told → Type 0 → Desk → Result ToldBytes QuestionFault → Desk → Type 0
IsTold told asked old (Ok answer) new = (answer.text.items ≡ told.text) × (answer.refused ≡ told.refused) × (new ≡ old)
IsTold told asked old (Err Memory) new = new ≡ old
IsTold told asked old (Err (Store fault)) new = asked × (new ≡ old)

-- the store's faults after a question
abbrev pub faults_after_question : {T : Type 0} → Result T QuestionFault → Faults → Faults
faults_after_question (Ok answer) faults = faults
faults_after_question (Err Memory) faults = faults
faults_after_question (Err (Store fault)) faults = counted fault faults
