-- The keys of the sets of which a list asks, in any order, some of them perhaps twice: those of the
-- package's sets that are not archived, and those of the sets that affect it.
use Rattle.std.specs.Prelude.{◌≡◌, ◌||◌, ℕ, List}
use Rattle.bug_record.specs.PackageSets.{has_name}
use Rattle.bug_record.specs.Sets.{has}
use Rattle.table_content.specs.Content.{Content}
use Rattle.table_sets.specs.Listed.{is_of}

abbrev pub AreKeysToList : List ℕ → Content → List ℕ → Type 0
AreKeysToList p c keys = (k : ℕ) → has keys k ≡ (is_of p (c.fields k) || has_name (c.affects k) p)
