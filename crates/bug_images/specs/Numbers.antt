-- Sets of numbers joined.
use Rattle.std.specs.Prelude.{ℕ, ◌≡◌, Bool, ◌||◌, List}
use Rattle.bug_record.specs.Sets.{has, IsAscending}

-- The list has the numbers of the set, and also these, and ascends where the set does.
pub record IsJoined (set : List ℕ) (also : ℕ → Bool) (joined : List ℕ) : Type 0 where
  pub ascending : IsAscending set → IsAscending joined
  pub numbers : (n : ℕ) → has joined n ≡ (has set n || also n)
