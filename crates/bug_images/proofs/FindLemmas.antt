-- What `find` finds.
use Rattle.std.proofs.Common.{◌≡◌, Option, Some, None, MatchOption, sym, Bor}
use Rattle.std.specs.Prelude.{option_map}

-- a lent value that is what a definition gives
pub lent : {X : Type 0} (r : Option (Bor X)) (o : Option X) → option_map (λ x. x.now) r ≡ o
    → MatchOption r (o ≡ None) (λ x. o ≡ Some x.now)
lent None o h = sym h
lent (Some x) o h = sym h
