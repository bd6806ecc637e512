-- Branches: lists of nodes, each based on the next.
-- This project's own rule.
use Rattle.std.specs.Prelude.{ℕ, ◌+◌, ◌==◌, ◌≡◌, ◌&&◌, ◌||◌, ⊤, Bool, true, false, nat_lt, List, [], ◌∷◌, length, take, slice_get}
use Rattle.std.specs.Prelude.{Option, Some, None, is_none, is_some, All, Result, Ok, Err, if◌then◌else◌}
use Rattle.std.specs.List.{find, range_with_len}
use Rattle.std.specs.List.Sorted.{IsStrictlySortedBy}
use Rattle.std.specs.Map.{keys_of}
use Rattle.std.specs.Option.{option_map_or}
use Rattle.std.specs.BTreeMap.{insert_entry}
use Rattle.version_nodes.specs.Nodes.{Node, node_cmp}
use Rattle.version_nodes.specs.Trees.{Ancestry, has_node, known_at, knows, parent_of, line, is_ancestor}
use Rattle.version_nodes.specs.declared.fault.BranchFault.{BranchFault}
use Rattle.version_nodes.specs.declared.fault.BranchFault.TheVariants.{EmptyBranch, Repeated, Conflict, TooLong, Memory}

-- a node that becomes known has no parent
abbrev pub learn : Ancestry → Node → Ancestry
learn t n = if knows t n then t else insert_entry node_cmp t n None

abbrev pub learn_all : Ancestry → List Node → Ancestry
learn_all t [] = t
learn_all t (n ∷ nodes) = learn_all (learn t n) nodes

abbrev pub with_parent : Ancestry → Node → Node → Ancestry
with_parent t n p = insert_entry node_cmp t n (Some p)

-- n is based on p: nothing is new where p is a proper ancestor of n; otherwise p becomes its
-- parent, where n has none and is not in the line of p
abbrev pub base_on : Ancestry → Node → Node → Option Ancestry
base_on t n p =
    if is_ancestor t p n then Some t
    else if is_some (parent_of t n) || has_node (line t p) n then None
    else Some (with_parent t n p)

-- what is made of the ancestry, or the conflict at this place
abbrev pub or_conflict : ℕ → Option Ancestry → (Ancestry → Result Ancestry BranchFault) → Result Ancestry BranchFault
or_conflict place None f = Err (Conflict place)
or_conflict place (Some t) f = f t

-- each node is based on the next, from the left; the first has this place
abbrev pub base_all : ℕ → Ancestry → List Node → Result Ancestry BranchFault
base_all place t [] = Ok t
base_all place t (n ∷ []) = Ok t
base_all place t (n ∷ p ∷ nodes) = or_conflict place (base_on t n p) (λ t'. base_all (place + 1) t' (p ∷ nodes))

-- whether the node at this place stands earlier, too
abbrev pub is_repeat : List Node → ℕ → Bool
is_repeat nodes place = option_map_or (has_node (take place nodes)) (slice_get nodes place) false

-- the first place whose node stands earlier
abbrev pub first_repeat : List Node → Option ℕ
first_repeat nodes = find (is_repeat nodes) (range_with_len 0 (length nodes))

-- The ancestry after a branch, or why it is refused, in this order.
-- All nodes of a branch are known after it.
unfoldable pub branched : Ancestry → List Node → Result Ancestry BranchFault
branched t nodes =
    if length nodes == 0 then Err EmptyBranch
    else if nat_lt 200 (length nodes) then Err TooLong
    else option_map_or (λ place. Err (Repeated place)) (first_repeat nodes) (base_all 0 (learn_all t nodes) nodes)

-- A branch for which there may be no memory: one that is not refused for its length or a repeat.
abbrev pub TakesMemory : Result Ancestry BranchFault → Type 0
TakesMemory (Ok t) = ⊤
TakesMemory (Err (Conflict place)) = ⊤
TakesMemory (Err fault) = ⊥

-- What a call answers and leaves: an accepted branch gives the ancestry above, and a refused one,
-- or one for which there is no memory, leaves what was there.
abbrev pub IsBranched : Ancestry → List Node → Result (Unit {0}) BranchFault → Ancestry → Type 0
IsBranched t nodes (Ok _) t' = branched t nodes ≡ Ok t'
IsBranched t nodes (Err Memory) t' = t' ≡ t
IsBranched t nodes (Err fault) t' = (branched t nodes ≡ Err fault) × (t' ≡ t)

-- each node is a proper ancestor of those before it
abbrev pub AreBased : Ancestry → List Node → Type 0
AreBased t [] = ⊤
AreBased t (n ∷ nodes) = All (λ p. is_ancestor t p n ≡ true) nodes × AreBased t nodes

-- only nodes of a branch may change, and of these only such as have no parent
abbrev pub may_change : Ancestry → List Node → Node → Bool
may_change t nodes n = has_node nodes n && is_none (parent_of t n)

-- of all other nodes the same is known, no known node is forgotten, and the nodes stand in order
pub record Extends (t : Ancestry) (nodes : List Node) (t' : Ancestry) : Type 0 where
  pub others : (n : Node) → may_change t nodes n ≡ false → known_at t' n ≡ known_at t n
  pub kept : (n : Node) → knows t n ≡ true → knows t' n ≡ true
  pub ascending : IsStrictlySortedBy node_cmp (keys_of t')
