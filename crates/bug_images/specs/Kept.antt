-- Sets that stay the same bugs, and what differs of their members.
use Rattle.std.specs.Prelude.{ℕ, ◌≡◌, Bool, true, ◌&&◌, nat_lt, List, [], ◌∷◌, Option, Some, None, if◌then◌else◌}
use Rattle.bug_record.specs.Sets.{IsAscending}
use Rattle.bug_record.specs.Images.{numbers_of}
use Rattle.bug_record.specs.declared.bug.Member.{Member}
use Rattle.bug_record.specs.declared.bug.SetImage.{SetImage}
use Rattle.bug_images.specs.Changes.{same_texts}

abbrev pub is_above : Option ℕ → ℕ → Bool
is_above None n = true
is_above (Some k) n = nat_lt k n

-- whether the numbers ascend, from above the last one before them, if there is one
abbrev pub ascends : Option ℕ → List ℕ → Bool
ascends last [] = true
ascends last (n ∷ ns) = is_above last n && ascends (Some n) ns

-- the numbers of the members whose titles or submitters differ, place by place
abbrev pub retold : List Member → List Member → List ℕ
retold [] ns = []
retold (m ∷ ms) [] = []
retold (m ∷ ms) (n ∷ ns) = if same_texts m n then retold ms ns else n.number ∷ retold ms ns

-- the images are of the same bugs, which ascend
pub record IsKept (old new : SetImage) : Type 0 where
  pub numbers : numbers_of old.members ≡ numbers_of new.members
  pub ascending : IsAscending (numbers_of new.members)
