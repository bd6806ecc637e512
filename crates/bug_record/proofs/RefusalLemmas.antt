-- Tests of which none refuses.
use Rattle.std.proofs.Common.{◌≡◌, Option, Some, None, refl, sym}
use Rattle.std.specs.Option.{option_or}
use Rattle.std.proofs.lemmas.Option.{none-some}
use Rattle.bug_record.specs.declared.command.Refusal.{Refusal}

-- where no test refuses, neither of two does
pub first-none : (o p : Option Refusal) → option_or o p ≡ None → o ≡ None
first-none None p e = refl
first-none (Some refusal) p e = absurd (none-some refusal (sym e))

pub later-none : (o p : Option Refusal) → option_or o p ≡ None → p ≡ None
later-none None p e = e
later-none (Some refusal) p e = absurd (none-some refusal (sym e))
