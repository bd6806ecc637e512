-- What tells at once of most images that they are of another package, or wait on another bug.
-- This project's own rule.
use Rattle.std.specs.Prelude.{ℕ, ◌≡◌, ◌+◌, ◌%◌, ⊤, List, [], ◌∷◌, Option, Some, None}
use Rattle.bug_record.specs.declared.bug.Shared.{Shared}
use Rattle.store_sets.specs.declared.summed_image.Waits.{Waits}
use Rattle.store_sets.specs.declared.summed_image.Waits.TheVariants.{OnNone, OnOne, OnSome}
use Rattle.store_sets.specs.declared.passing.Question.{Question}
use Rattle.store_sets.specs.declared.passing.Question.TheVariants.{WaitsOn, IsListed}

-- the sum and these bytes, modulo 2 to the 32
abbrev pub with_bytes : ℕ → List ℕ → ℕ
with_bytes sum [] = sum
with_bytes sum (c ∷ cs) = with_bytes ((sum + c) % 4294967296) cs

abbrev pub name_sum : List ℕ → ℕ
name_sum name = with_bytes 0 name

-- a sum that is kept is that of the package's name, and no other package is affected
abbrev pub IsSumOf : Option ℕ → Shared → Type 0
IsSumOf None f = ⊤
IsSumOf (Some sum) f = (sum ≡ name_sum f.package) × (f.affects ≡ [])

-- what is kept of the bugs that a set waits on
abbrev pub AreWaits : Waits → Shared → Type 0
AreWaits OnNone f = f.blockers ≡ []
AreWaits (OnOne n) f = f.blockers ≡ n ∷ []
AreWaits OnSome f = ⊤

-- the sum that a set must have where the answer is yes
abbrev pub IsSumAsked : Question → Option ℕ → Type 0
IsSumAsked (WaitsOn n) sum = sum ≡ None
IsSumAsked (IsListed package_name line) sum = sum ≡ Some (name_sum package_name.now)
