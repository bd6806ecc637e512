use Rattle.std.proofs.Common.{◌≡◌, ℕ, take}
use Rattle.std.specs.Prelude.{◌==◌, nat_lt, count_by}
use Rattle.std.specs.BTreeSet.{contains}
use Rattle.std.specs.Ordering.{nat_cmp}
use Rattle.store_contract.specs.Twice.{stands_twice}
use Rattle.store_contract.proofs.known.repeated.Given as goal

abbrev pub invariant-loop-name : goal.invariant-loop-name
invariant-loop-name l = record {
  seen : (k : ℕ) → contains nat_cmp l.seen k ≡ nat_lt 0 (count_by (λ j. j == k) (take l.name-index l.names));
  found : (k : ℕ) → contains nat_cmp l.found k ≡ stands_twice (take l.name-index l.names) k;
}
