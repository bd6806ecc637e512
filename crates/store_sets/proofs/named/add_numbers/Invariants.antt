use Rattle.std.proofs.Common.{ℕ, Bool, drop}
use Rattle.std.specs.Prelude.{nat_eq}
use Rattle.std.specs.HashSet.{contains}
use Rattle.bug_record.specs.Sets.{has}
use Rattle.store_sets.proofs.NamedLemmas.{IsWithin}
use Rattle.store_sets.proofs.named.add_numbers.Given as goal

-- what has those that are named by now, and the numbers that are left, has all
abbrev pub invariant-loop-number : goal.invariant-loop-number
invariant-loop-number l = record {
  keeps : IsWithin (contains nat_eq l.fn.named) (contains nat_eq l.named);
  adds : (f : ℕ → Bool) → IsWithin (contains nat_eq l.named) f → IsWithin (has (drop l.number-index l.numbers)) f → IsWithin (has l.numbers) f;
}
