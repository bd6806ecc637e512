use Rattle.std.proofs.Common.{ℕ, Bool, drop}
use Rattle.std.specs.Prelude.{nat_eq}
use Rattle.std.specs.HashSet.{contains}
use Rattle.bug_record.specs.Sets.{Each}
use Rattle.store_sets.specs.Named.{NamesAmong}
use Rattle.store_sets.proofs.NamedLemmas.{IsWithin}
use Rattle.store_sets.proofs.named.add_blockers.Given as goal

-- what has those that are named by now, and the blockers of the images that are left, has all
abbrev pub invariant-loop-image : goal.invariant-loop-image
invariant-loop-image l = record {
  keeps : IsWithin (contains nat_eq l.fn.named) (contains nat_eq l.named);
  adds : (f : ℕ → Bool) → IsWithin (contains nat_eq l.named) f → Each (NamesAmong f) (drop l.image-index l.images) → Each (NamesAmong f) l.images;
}
