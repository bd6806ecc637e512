-- Sets of package names, in the order of their bytes, as the packages that a bug affects.
-- This project's own rule.
use Rattle.std.specs.Prelude.{ℕ, Bool, List}
use Rattle.std.specs.BTreeSet.{insert_key}
use Rattle.std.specs.Cmp.Lexicographic.{slice_cmp}
use Rattle.std.specs.List.{list_any}
use Rattle.std.specs.List.Sorted.{IsStrictlySortedBy}
use Rattle.std.specs.Ordering.{nat_cmp}
use Rattle.std.specs.Str.{bytes_eq}
use Rattle.std.specs.declared.cmp.Ordering.{Ordering}
use Rattle.debver.specs.Names.{IsName}
use Rattle.base_sequences.specs.Ordered.{ordered_set}
use Rattle.base_sequences.specs.Sets.{Each}

-- the order of bytes
abbrev pub name_cmp : List ℕ → List ℕ → Ordering
name_cmp a b = slice_cmp nat_cmp a b

-- whether the name is among these
abbrev pub has_name : List (List ℕ) → List ℕ → Bool
has_name names n = list_any (bytes_eq n) names

-- each name stands once, in order, and is a package name
pub record IsNameSet (names : List (List ℕ)) : Type 0 where
  pub ascending : IsStrictlySortedBy name_cmp names
  pub valid : Each IsName names

-- the set with n
abbrev pub with_name : List (List ℕ) → List ℕ → List (List ℕ)
with_name names n = insert_key name_cmp names n

-- the names of a list, each once, in order
abbrev pub name_set : List (List ℕ) → List (List ℕ)
name_set names = ordered_set name_cmp names
