-- The keys of the sets that wait on a bug, in any order.
use Rattle.std.specs.Prelude.{◌≡◌, ℕ, List}
use Rattle.bug_record.specs.Sets.{has}
use Rattle.table_content.specs.Content.{Content}

abbrev pub AreKeysOf : ℕ → Content → List ℕ → Type 0
AreKeysOf b c keys = (k : ℕ) → has keys k ≡ has (c.blockers k) b
