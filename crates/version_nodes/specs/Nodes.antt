-- Nodes: versions of source packages (names of packages: Debian Policy 5.6.1; versions: 5.6.12; how
-- the two are written together is this project's own rule).
use Rattle.std.specs.Prelude.{ℕ, ◌≡◌, ◌≢◌, ◌==◌, ◌&&◌, Bool, List, ◌∷◌, ◌++◌, Option, Some, None, is_none, Result, Ok, Err}
use Rattle.std.specs.Prelude.{if◌then◌else◌}
use Rattle.std.specs.List.{list_any, before_first, after_first}
use Rattle.std.specs.Str.{bytes_eq}
use Rattle.std.specs.Ordering.{nat_cmp, ordering_then}
use Rattle.std.specs.Cmp.Lexicographic.{slice_cmp}
use Rattle.std.specs.declared.cmp.Ordering.{Ordering}
use Rattle.debver.specs.Names.{IsName, name_fault}
use Rattle.debver.specs.Cut.{IsVersion}
use Rattle.debver.specs.Faults.{text_fault}
use Rattle.debver.specs.Versions.{total_cmp}
use Rattle.version_nodes.specs.declared.fault.NodeFault.{NodeFault}
use Rattle.version_nodes.specs.declared.fault.NodeFault.TheVariants.{BadNode, Memory}

-- a version of a source package, both as texts
pub record Node : Type 0 where
  pub source : List ℕ
  pub version : List ℕ

abbrev pub node : List ℕ → List ℕ → Node
node source version = record { source = source; version = version }

-- the texts are a package name and a version
pub record IsNode (n : Node) : Type 0 where
  pub source : IsName n.source
  pub version : IsVersion n.version

-- a node is written `source/version`
abbrev pub node_text : Node → List ℕ
node_text n = n.source ++ 47 ∷ n.version

-- two nodes are equal where both texts are equal
abbrev pub same_node : Node → Node → Bool
same_node a b = bytes_eq a.source b.source && bytes_eq a.version b.version

-- nodes are ordered by the bytes of the source, then by the total order of versions
abbrev pub node_cmp : Node → Node → Ordering
node_cmp a b = ordering_then (slice_cmp nat_cmp a.source b.source) (total_cmp a.version b.version)

abbrev pub is_slash : ℕ → Bool
is_slash c = c == 47

-- the node of these texts, where the one is a package name and the other a version
abbrev pub node_of : List ℕ → List ℕ → Option Node
node_of source version = if is_none (name_fault source) && is_none (text_fault version) then Some (node source version) else None

-- the node that a text says, which is cut at its first slash
abbrev pub node_of_text : List ℕ → Option Node
node_of_text text = if list_any is_slash text then node_of (before_first is_slash text) (after_first is_slash text) else None

-- The node that a version word means for a package: a bare version is one of the package, and
-- `source/version` has its own source.
-- The package has to be a package name either way.
abbrev pub node_at : List ℕ → List ℕ → Option Node
node_at package_name word =
    if is_none (name_fault package_name)
    then (if list_any is_slash word then node_of_text word else node_of package_name word)
    else None

-- what reading answers: the node, if there is one; out of memory is answered only where there is
-- one
abbrev pub IsRead : Option Node → Result Node NodeFault → Type 0
IsRead o (Ok n) = o ≡ Some n
IsRead o (Err BadNode) = o ≡ None
IsRead o (Err Memory) = o ≢ None
