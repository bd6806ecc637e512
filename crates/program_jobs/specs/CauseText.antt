-- The text of a cause, as the code has its parts.
use Rattle.std.specs.Prelude.{ℕ, ◌++◌, List, decimal, Option, Some, None}
use Rattle.program_jobs.specs.declared.cause_text.Parts.{Parts}

-- a number, if there is one, and the text behind it
abbrev pub number_and : Option ℕ → List ℕ → List ℕ
number_and None after = after
number_and (Some number) after = decimal number ++ after

-- the text of these parts
abbrev pub parts_text : Parts → List ℕ
parts_text parts = parts.before.now ++ number_and parts.number parts.after.now
