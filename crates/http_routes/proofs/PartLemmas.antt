-- What stands before a place, by what is found there.
use Rattle.std.proofs.Common.{◌≡◌, ℕ, ◌≤◌, Bool, true, false, List, length, take, Some, None, cond, refl, sym, ap, arith}
use Rattle.std.specs.Prelude.{nat_lt, position}
use Rattle.std.specs.List.{position_or_len, before_first}
use Rattle.std.proofs.lemmas.List.{take_all}
use Rattle.std.proofs.lemmas.Bool.Decides.{nat_tests}

found : (b : Bool) (n i : ℕ) → Some i ≡ cond b (Some n) None → n ≡ i
found true n i e = cc
found false n i e = cc

nothing : (b : Bool) (n : ℕ) → None ≡ cond b (Some n) None → b ≡ false
nothing true n e = cc
nothing false n e = refl

module _ (p : ℕ → Bool) (bytes : List ℕ) where
  place_is : (i : ℕ) → Some i ≡ position p bytes → position_or_len p bytes ≡ i
  place_is i e = found (nat_lt (position_or_len p bytes) (length bytes)) (position_or_len p bytes) i e

  past : None ≡ position p bytes → length bytes ≤ position_or_len p bytes
  past e =
      let test = nothing (nat_lt (position_or_len p bytes) (length bytes)) (position_or_len p bytes) e in
      grind (arith, nat_tests)

  pub before_first-at : (i : ℕ) → Some i ≡ position p bytes → take i bytes ≡ before_first p bytes
  before_first-at i e = ap (λ (n : ℕ). take n bytes) (sym (place_is i e))

  pub before_first-none : None ≡ position p bytes → bytes ≡ before_first p bytes
  before_first-none e = sym (take_all (position_or_len p bytes) bytes (past e))
