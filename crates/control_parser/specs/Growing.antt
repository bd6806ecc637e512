-- What is answered of a part of a line, where it goes behind what was read before.
use Rattle.std.specs.Prelude.{◌≡◌, List, ◌++◌, Result, Ok, Err, ⊤}
use Rattle.bug_record.specs.declared.command.Refusal.{Refusal}
use Rattle.control_grammar.specs.Commands.{and_read}
use Rattle.control_parser.specs.declared.fault.LineFault.{LineFault}
use Rattle.control_parser.specs.declared.fault.LineFault.TheVariants.{Refused, Memory}

-- the same where what is read goes behind what was there
abbrev pub ReadsMore : {A U : Type 0} → Result (List A) Refusal → List A → List A → Result U LineFault → Type 0
ReadsMore answer before after (Ok value) = and_read answer (λ more. Ok (before ++ more)) ≡ Ok after
ReadsMore answer before after (Err (Refused refusal)) = answer ≡ Err refusal
ReadsMore answer before after (Err Memory) = ⊤
