-- The sets of a package that are not archived, in any order, as a list asks for them.
-- This project's own rule.
use Rattle.std.specs.Prelude.{◌≡◌, ◌&&◌, ℕ, Bool, false, not, List, map, Option, Some, None, if◌then◌else◌}
use Rattle.std.specs.List.{AllByRecursion}
use Rattle.std.specs.Option.{option_map_or, option_and_then}
use Rattle.std.specs.Str.{bytes_eq}
use Rattle.bug_record.specs.Sets.{has}
use Rattle.table_content.specs.Content.{Content}
use Rattle.table_content.specs.declared.edit.SetFields.{SetFields}
use Rattle.table_sets.specs.declared.listed.ListedSet.{ListedSet}
use Rattle.table_sets.specs.declared.listed.RowFields.{RowFields}

-- whether a set with these fields, if there is one, is of the package and not archived
abbrev pub is_of : List ℕ → Option SetFields → Bool
is_of p fields = option_map_or (λ f. bytes_eq f.«package» p && not f.archived) fields false

abbrev pub AreKeysFor : List ℕ → Content → List ℕ → Type 0
AreKeysFor p c keys = (k : ℕ) → has keys k ≡ is_of p (c.fields k)

-- what rows have of a set with these fields, if it is not archived
abbrev pub row_fields : SetFields → Option RowFields
row_fields f = if f.archived then None else Some (record { severity = f.severity; closed = f.closed })

-- rows have of the set of its key what is said, and it is not archived
abbrev pub IsListedSet : Content → ListedSet → Type 0
IsListedSet c s = option_and_then row_fields (c.fields s.key) ≡ Some s.fields

-- the keys of sets
abbrev pub keys_in : List ListedSet → List ℕ
keys_in sets = map (λ s. s.key) sets

-- the sets are those of the package that are not archived
pub record AreSetsOf (p : List ℕ) (c : Content) (sets : List ListedSet) : Type 0 where
  pub keys : AreKeysFor p c (keys_in sets)
  pub say : AllByRecursion (IsListedSet c) sets
