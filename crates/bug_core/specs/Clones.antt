-- The images of copies of a bug.
use Rattle.std.specs.Prelude.{ℕ, ◌+◌, List, [], ◌∷◌, map}
use Rattle.bug_record.specs.Sets.{numbers_below}
use Rattle.bug_record.specs.declared.bug.Member.{Member}
use Rattle.bug_record.specs.declared.bug.SetImage.{SetImage}
use Rattle.bug_record.specs.declared.bug.Shared.{Shared}

-- a member of a set with these shared fields, copied under the number n, alone in its set
abbrev pub clone_image : Shared → Member → ℕ → SetImage
clone_image f m n = record { shared = f; members = record m { number = n } ∷ [] }

-- so many copies, numbered upward from the next number
abbrev pub clone_images : Shared → Member → ℕ → ℕ → List SetImage
clone_images f m next many = map (λ k. clone_image f m (next + k)) (numbers_below many)
