-- Branches by the words of their nodes.
use Rattle.std.proofs.Common.{◌≡◌, ℕ, List, [], ◌∷◌, ◌++◌, Option, Some, None, Err, refl, sym, ap, ◌∙◌, append_assoc, option_map}
use Rattle.std.proofs.lemmas.Option.{none-some, same_Some}
use Rattle.version_nodes.specs.Nodes.{Node, node_of_text}
use Rattle.version_nodes.specs.Trees.{Ancestry}
use Rattle.version_nodes.specs.declared.fault.NodeFault.{NodeFault}
use Rattle.version_nodes.specs.declared.fault.NodeFault.TheVariants.{BadNode as WordIsNoNode, Memory as NoMemory}
use Rattle.message_directives.specs.BranchWords.{AreRead, IsNodeAdded}
use Rattle.message_directives.specs.Branches.{BadNode, node_before, nodes_of, branched_by, branch_of}

-- a word that is no node refuses the branch
pub branch_of_none : (tree : Ancestry) (names : List (List ℕ)) → nodes_of names ≡ None → branch_of tree names ≡ Err BadNode
unfolding branch_of
branch_of_none tree names h = ap (branched_by tree) h

-- a node is read, after others
pub after_others : (n : Node) (before : List Node) (o : Option (List Node))
    → option_map (λ nodes. before ++ nodes) (node_before (Some n) o) ≡ option_map (λ nodes. (before ++ n ∷ []) ++ nodes) o
after_others n before None = refl
after_others n before (Some nodes) = ap Some (sym (append_assoc before (n ∷ []) nodes))

-- the nodes of words, after others
abbrev pub after_nodes : List Node → List (List ℕ) → Option (List Node)
after_nodes before words = option_map (λ nodes. before ++ nodes) (nodes_of words)

pub after_none : (o : Option (List Node)) → option_map (λ nodes. [] ++ nodes) o ≡ o
after_none None = refl
after_none (Some nodes) = refl

-- a word is read after others, by what it is
pub node_added : (o : Option Node) (word : List ℕ) (words : List (List ℕ)) (before after : List Node)
    → node_of_text word ≡ o → option_map (λ n. before ++ n ∷ []) o ≡ Some after
    → after_nodes before (word ∷ words) ≡ after_nodes after words
node_added None word words before after e h = absurd (none-some after h)
node_added (Some n) word words before after e h =
    ap (λ (o : Option Node). option_map (λ nodes. before ++ nodes) (node_before o (nodes_of words))) e
    ∙ after_others n before (nodes_of words)
    ∙ ap (λ (ns : List Node). after_nodes ns words) (same_Some (before ++ n ∷ []) after h)

pub no_node_added : (word : List ℕ) (words : List (List ℕ)) (before : List Node) → node_of_text word ≡ None
    → after_nodes before (word ∷ words) ≡ None
no_node_added word words before e =
    ap (λ (o : Option Node). option_map (λ nodes. before ++ nodes) (node_before o (nodes_of words))) e ∙ rest (nodes_of words)
  where
    rest : (o : Option (List Node)) → option_map (λ nodes. before ++ nodes) (node_before None o) ≡ None
    rest None = refl
    rest (Some nodes) = refl

-- what is read of all words, where one of them isn't read
pub unread : (A : Type 0) (word : List ℕ) (words : List (List ℕ)) (all : Option (List Node)) (before after : List Node)
    (fault : NodeFault) → after_nodes before (word ∷ words) ≡ all
    → IsNodeAdded (node_of_text word) before after (Err fault) → AreRead {A = A} all (Err fault)
unread A word words all before after WordIsNoNode e h = sym e ∙ no_node_added word words before h.0
unread A word words all before after NoMemory e h = tt
