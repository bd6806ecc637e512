-- The refusals of a report's words.
-- This project's own rule.
use Rattle.std.specs.Prelude.{⊤}
use Rattle.desk_text.specs.declared.report_fault.ReportFault.{ReportFault}
use Rattle.desk_text.specs.declared.report_fault.ReportFault.TheVariants.{Full, Store}

-- a refusal of a report's words
abbrev pub IsOfWords : ReportFault → Type 0
IsOfWords Full = ⊥
IsOfWords (Store fault) = ⊥
IsOfWords _ = ⊤
