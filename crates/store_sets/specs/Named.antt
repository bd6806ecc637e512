-- The numbers that images name as blockers.
-- This project's own rule.
use Rattle.std.specs.Prelude.{ℕ, ◌≡◌, Bool, true, Option, Some}
use Rattle.bug_record.specs.Sets.{has}
use Rattle.bug_record.specs.declared.bug.SetImage.{SetImage}

-- each blocker of the image is among those that are named
abbrev pub NamesAmong : (ℕ → Bool) → SetImage → Type 0
NamesAmong named i = (n : ℕ) → has i.shared.blockers n ≡ true → named n ≡ true

-- so are those of the image of each key
abbrev pub AreNamed : (ℕ → Option SetImage) → (ℕ → Bool) → Type 0
AreNamed set named = (k : ℕ) (i : SetImage) → set k ≡ Some i → NamesAmong named i
