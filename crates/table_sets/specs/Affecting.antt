-- The keys of the sets that affect a package, in any order.
use Rattle.std.specs.Prelude.{◌≡◌, ℕ, List}
use Rattle.bug_record.specs.PackageSets.{has_name}
use Rattle.bug_record.specs.Sets.{has}
use Rattle.table_content.specs.Content.{Content}

abbrev pub AreKeysAffecting : List ℕ → Content → List ℕ → Type 0
AreKeysAffecting p c keys = (k : ℕ) → has keys k ≡ has_name (c.affects k) p
