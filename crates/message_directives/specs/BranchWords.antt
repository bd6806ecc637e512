-- What is read of the words of a branch.
use Rattle.std.specs.Prelude.{◌≡◌, List, [], ◌∷◌, ◌++◌, Option, Some, None, Result, Ok, Err, Vec, ⊤, option_map}
use Rattle.version_nodes.specs.Nodes.{Node}
use Rattle.version_nodes.specs.declared.fault.NodeFault.{NodeFault}
use Rattle.version_nodes.specs.declared.fault.NodeFault.TheVariants.{BadNode as WordIsNoNode, Memory as NoMemory}

-- what is read of the words of a branch, unless there was no memory
abbrev pub AreRead : {A : Type 0} → Option (List Node) → Result (Vec Node A) NodeFault → Type 0
AreRead nodes (Ok read) = nodes ≡ Some read.items
AreRead nodes (Err WordIsNoNode) = nodes ≡ None
AreRead nodes (Err NoMemory) = ⊤

-- what comes of reading one word, which is this node if it is one, after the nodes before it
abbrev pub IsNodeAdded : Option Node → List Node → List Node → Result (Unit {0}) NodeFault → Type 0
IsNodeAdded read before after (Ok done) = option_map (λ n. before ++ n ∷ []) read ≡ Some after
IsNodeAdded read before after (Err WordIsNoNode) = (read ≡ None) × (after ≡ before)
IsNodeAdded read before after (Err NoMemory) = after ≡ before
