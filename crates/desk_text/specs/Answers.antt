-- The answers to the directives of a script.
-- This project's own rule.
use Rattle.std.specs.Prelude.{ℕ, List, [], ◌++◌, Result, Ok, Err, codes}
use Rattle.std.specs.Fmt.{decimal}
use Rattle.version_nodes.specs.declared.fault.BranchFault.{BranchFault}
use Rattle.version_nodes.specs.declared.fault.BranchFault.TheVariants.{EmptyBranch, Repeated, Conflict, TooLong, Memory}
use Rattle.desk_text.specs.Texts.{as_line, full_text, fault_text}
use Rattle.desk_text.specs.declared.report_fault.ReportFault.{ReportFault}
use Rattle.desk_text.specs.declared.report_fault.ReportFault.TheVariants.{BadPackage, BadVersion, BadSeverity, BadTitle, Full, Store}
use Rattle.base_faults.specs.declared.store_fault.StoreFault.{StoreFault}

-- the line of a refusal
abbrev pub refused_line : List ℕ → List ℕ
refused_line why = as_line (codes "NO " ++ why)

-- why a report is refused; a fault of the store refuses none
abbrev pub report_refusal : ReportFault → List ℕ
report_refusal BadPackage = codes "bad package name"
report_refusal BadVersion = codes "bad version"
report_refusal BadSeverity = codes "unknown severity"
report_refusal BadTitle = codes "bad title"
report_refusal Full = full_text
report_refusal (Store fault) = []

-- a report: the number of the new bug, the refusal, or the fault of the store
abbrev pub report_answer : Result ℕ ReportFault → List ℕ
report_answer (Ok number) = as_line (codes "OK " ++ decimal number)
report_answer (Err (Store fault)) = fault_text fault
report_answer (Err refusal) = refused_line (report_refusal refusal)

-- why a branch of nodes is refused; no store refuses one for being out of memory
abbrev pub nodes_refusal : BranchFault → List ℕ
nodes_refusal EmptyBranch = codes "empty branch"
nodes_refusal TooLong = codes "more than 200 versions"
nodes_refusal (Repeated place) = codes "repeated version at " ++ decimal place
nodes_refusal (Conflict place) = codes "conflict at " ++ decimal place
nodes_refusal Memory = []

-- a branch whose words are nodes: `OK`, the refusal, or the fault of the store
abbrev pub branch_answer : Result (Result (Unit {0}) BranchFault) StoreFault → List ℕ
branch_answer (Ok (Ok done)) = as_line (codes "OK")
branch_answer (Ok (Err refusal)) = refused_line (nodes_refusal refusal)
branch_answer (Err fault) = fault_text fault

-- a branch of which a word is no node, or a list whose version is none
abbrev pub bad_version_answer : List ℕ
bad_version_answer = refused_line (codes "bad version")

-- a list of no package
abbrev pub bad_package_answer : List ℕ
bad_package_answer = refused_line (codes "bad package name")

-- the page of a bug that is not there
abbrev pub no_bug_answer : ℕ → List ℕ
no_bug_answer number = refused_line (codes "no such bug " ++ decimal number)

-- a line that begins with `@` and is no directive
abbrev pub bad_directive_answer : List ℕ
bad_directive_answer = as_line (codes "Bad directive.")
