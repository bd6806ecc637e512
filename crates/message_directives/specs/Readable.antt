-- Which bugs a list has, in the words of somebody who releases a version.
-- This project's own rule.
use Rattle.std.specs.Prelude.{◌≡◌, ◌⊎◌, ℕ, List, [], ◌∷◌, ◌++◌, IsTrue, IsFalse}
use Rattle.version_nodes.specs.Nodes.{Node}
use Rattle.version_nodes.specs.Trees.{Ancestry, has_node, line}
use Rattle.bug_record.specs.PackageSets.{has_name}
use Rattle.bug_record.specs.Sets.{Each}
use Rattle.bug_record.specs.declared.bug.Shared.{Shared}

-- the version is marked neither found nor fixed
abbrev pub IsUnmarked : Shared → Node → Type 0
IsUnmarked f n = IsFalse (has_node f.found n) × IsFalse (has_node f.fixed n)

-- a version of the line is marked found, and none before it is marked
pub record IsFoundFirst (versions : List Node) (f : Shared) : Type 0 where
  pub before : List Node
  pub marked : Node
  pub after : List Node
  pub line_is : versions ≡ before ++ marked ∷ after
  pub unmarked : Each (IsUnmarked f) before
  pub found : IsTrue (has_node f.found marked)

-- no version of the line is marked, and none at all is marked found
abbrev pub IsFoundUnmarked : List Node → Shared → Type 0
IsFoundUnmarked versions f = Each (IsUnmarked f) versions × (f.found ≡ [])

-- A bug with these shared fields belongs in the list of a package at a version: it is a bug of the
-- package or affects it, is not archived, and is not closed with nothing marked fixed; and on the
-- line of the version, which begins with it and goes up to its oldest ancestor, the first marked
-- version is marked found, or no version is marked and none at all is marked found.
pub record IsIn (tree : Ancestry) (package_name : List ℕ) (version : Node) (f : Shared) : Type 0 where
  pub of_package : (f.«package» ≡ package_name) ⊎ IsTrue (has_name f.affects package_name)
  pub not_archived : IsFalse f.archived
  pub not_done : ¬ (IsTrue f.closed × (f.fixed ≡ []))
  pub marks : IsFoundFirst (line tree version) f ⊎ IsFoundUnmarked (line tree version) f
