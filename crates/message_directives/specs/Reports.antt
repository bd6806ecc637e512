-- Reports.
-- This project's own rule.
use Rattle.std.specs.Prelude.{ℕ, ◌≡◌, ◌≤◌, nat_lt, Bool, true, false, List, Option, Some, None, Result, Ok, Err, is_some, option_map}
use Rattle.std.specs.Prelude.{if◌then◌else◌}
use Rattle.debver.specs.Names.{name_fault}
use Rattle.debver.specs.Faults.{text_fault}
use Rattle.version_nodes.specs.Nodes.{Node, node}
use Rattle.base_words.specs.declared.named.TheConstants.{AFTER_LARGEST}
use Rattle.base_words.specs.Texts.{is_text}
use Rattle.bug_record.specs.Severities.{severity_of}
use Rattle.bug_record.specs.Desk.{Desk}
use Rattle.bug_record.specs.Steps.{reported}
use Rattle.bug_record.specs.declared.severity.Severity.{Severity}
use Rattle.base_faults.specs.declared.store_fault.StoreFault.{StoreFault}
use Rattle.desk_text.specs.declared.report_fault.ReportFault.{ReportFault}
use Rattle.desk_text.specs.declared.report_fault.ReportFault.TheVariants.{BadPackage, BadVersion, BadSeverity, BadTitle, Full, Store}
use Rattle.store_contract.specs.Store.{Faults, counted}

-- a version that is given, and is none
abbrev pub has_bad_version : Option (List ℕ) → Bool
has_bad_version None = false
has_bad_version (Some version) = is_some (text_fault version)

abbrev pub titled_severity : Option Severity → Bool → Result Severity ReportFault
titled_severity None good_title = Err BadSeverity
titled_severity (Some severity) true = Ok severity
titled_severity (Some severity) false = Err BadTitle

-- the severity of a report whose words are good, or its first refusal
unfoldable pub report_severity : List ℕ → Option (List ℕ) → List ℕ → List ℕ → Result Severity ReportFault
report_severity package_name version severity title =
    if is_some (name_fault package_name) then Err BadPackage
    else if has_bad_version version then Err BadVersion
    else titled_severity (severity_of severity) (is_text title)

-- the node of a report: the version of the package, if one is given
abbrev pub node_reported : List ℕ → Option (List ℕ) → Option Node
node_reported package_name version = option_map (λ v. node package_name v) version

-- The desk after a report whose words give this: the bug of the next number is new, where a number
-- is left.
abbrev pub desk_reported : Result Severity ReportFault → Desk → List ℕ → List ℕ → Option (List ℕ) → List ℕ
    → Result Desk ReportFault
desk_reported (Err fault) d sender package_name version title = Err fault
desk_reported (Ok severity) d sender package_name version title =
    if nat_lt d.next AFTER_LARGEST then Ok (reported d sender package_name severity title (node_reported package_name version))
    else Err Full

-- the new desk, or the refusal, of a report by this sender
unfoldable pub report_of : Desk → List ℕ → List ℕ → Option (List ℕ) → List ℕ → List ℕ → Result Desk ReportFault
report_of d sender package_name version severity title =
    desk_reported (report_severity package_name version severity title) d sender package_name version title

-- the desk after a report: as it was, where the report is refused
abbrev pub desk_after : Desk → Result Desk ReportFault → Desk
desk_after d (Ok new) = new
desk_after d (Err refusal) = d

-- What is answered, and the desk after it: the number of the new bug; a refusal, and no change; or,
-- of a report whose words are good, a fault of the store, and no change.
abbrev pub IsReported : List ℕ → List ℕ → Option (List ℕ) → List ℕ → List ℕ → Desk → Result ℕ ReportFault → Desk → Type 0
IsReported sender package_name version severity title old (Ok number) new =
    (report_of old sender package_name version severity title ≡ Ok new) × (number ≡ old.next)
IsReported sender package_name version severity title old (Err (Store fault)) new =
    (s : Severity) × (report_severity package_name version severity title ≡ Ok s) × (new ≡ old)
IsReported sender package_name version severity title old (Err refusal) new =
    (report_of old sender package_name version severity title ≡ Err refusal) × (new ≡ old)

-- the store's faults after a report
abbrev pub faults_after_report : Result ℕ ReportFault → Faults → Faults
faults_after_report (Ok number) faults = faults
faults_after_report (Err (Store fault)) faults = counted fault faults
faults_after_report (Err refusal) faults = faults

-- What a report whose words are good is answered, where this is the store's answer to the question
-- for the next number: its fault, or `Full` where no number is left.
abbrev pub FollowsNext : Result ℕ StoreFault → Result ℕ ReportFault → Type 0
FollowsNext (Err fault) answer = answer ≡ Err (Store fault)
FollowsNext (Ok next) answer = AFTER_LARGEST ≤ next → answer ≡ Err Full

-- The store was asked for the next number, before anything that may run out of memory.
pub record AsksForNext {S : Type 0} (next_gives : S → S → Result ℕ StoreFault → Type 0) (old : S) (answer : Result ℕ ReportFault) :
    Type 0 where
  pub next : Result ℕ StoreFault
  pub asked : S
  pub gives : next_gives old asked next
  pub follows : FollowsNext next answer
