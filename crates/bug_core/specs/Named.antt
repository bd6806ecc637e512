-- The numbers of the bugs whose sets a change replaces.
use Rattle.std.specs.Prelude.{ℕ, List, [], ◌∷◌}
use Rattle.bug_core.specs.declared.images.Replaced.{Replaced}
use Rattle.bug_core.specs.declared.images.Replaced.TheVariants.{One, Several}

abbrev pub named_numbers : Replaced → List ℕ
named_numbers (One n) = n ∷ []
named_numbers (Several set) = set.now.keys
