-- Branches in a script, by the words of their nodes.
-- This project's own rule.
use Rattle.std.specs.Prelude.{ℕ, List, [], ◌∷◌, Option, Some, None, Result, Ok, Err}
use Rattle.version_nodes.specs.Nodes.{Node, node_of_text}
use Rattle.version_nodes.specs.Trees.{Ancestry}
use Rattle.version_nodes.specs.Branches.{branched}
use Rattle.version_nodes.specs.declared.fault.BranchFault.{BranchFault}

-- a node before others, if all are nodes
abbrev pub node_before : Option Node → Option (List Node) → Option (List Node)
node_before (Some n) (Some nodes) = Some (n ∷ nodes)
node_before _ _ = None

-- the nodes of these words, where each is one
abbrev pub nodes_of : List (List ℕ) → Option (List Node)
nodes_of [] = Some []
nodes_of (word ∷ words) = node_before (node_of_text word) (nodes_of words)

-- why a branch is refused: a word is no node, or its nodes are no branch
pub data BranchRefusal : Type 0 where
  BadNode : BranchRefusal
  Refused : BranchFault → BranchRefusal

abbrev pub or_refused : Result Ancestry BranchFault → Result Ancestry BranchRefusal
or_refused (Ok tree) = Ok tree
or_refused (Err fault) = Err (Refused fault)

abbrev pub branched_by : Ancestry → Option (List Node) → Result Ancestry BranchRefusal
branched_by tree None = Err BadNode
branched_by tree (Some nodes) = or_refused (branched tree nodes)

-- The ancestry after a branch of these words, or the refusal: a word that is no node decides before
-- the branch is looked at.
unfoldable pub branch_of : Ancestry → List (List ℕ) → Result Ancestry BranchRefusal
branch_of tree words = branched_by tree (nodes_of words)
