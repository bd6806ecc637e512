-- How an answer says what is read.
use Rattle.std.specs.Prelude.{◌≡◌, Result, Ok, Err, ⊤}
use Rattle.bug_record.specs.declared.command.Refusal.{Refusal}
use Rattle.control_parser.specs.declared.fault.LineFault.{LineFault}
use Rattle.control_parser.specs.declared.fault.LineFault.TheVariants.{Refused, Memory}

-- what is answered is what is read, unless there was no memory
abbrev pub Reads : {A : Type 0} → Result A Refusal → Result A LineFault → Type 0
Reads answer (Ok value) = answer ≡ Ok value
Reads answer (Err (Refused refusal)) = answer ≡ Err refusal
Reads answer (Err Memory) = ⊤
