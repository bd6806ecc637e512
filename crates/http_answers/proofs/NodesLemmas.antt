-- The nodes of words, from a word on.
use Rattle.std.proofs.Common.{◌≡◌, ℕ, suc, ◌+◌, ◌<◌, ◌≤◌, List, ◌∷◌, length, drop, get_or, map, Option, Some}
use Rattle.std.proofs.Common.{string_bytes, String, Global, Ok, Err, refl, sym, ap, ◌∙◌, add-one, append-nil}
use Rattle.std.proofs.Common.{drop-cons, drop_of_length-le}
use Rattle.version_nodes.specs.Nodes.{Node, node_of_text}
use Rattle.version_nodes.specs.declared.fault.NodeFault.{NodeFault}
use Rattle.message_directives.specs.Branches.{nodes_of}
use Rattle.message_directives.specs.BranchWords.{AreRead, IsNodeAdded}
use Rattle.message_directives.proofs.BranchLemmas.{after_nodes, node_added, unread}

-- the nodes from the word i on, after these
abbrev pub nodes_from : List Node → List (String Global) → ℕ → Option (List Node)
nodes_from nodes ws i = after_nodes nodes (map string_bytes (drop i ws))

-- the words from one on are it and those after it
from_word : (nodes : List Node) (ws : List (String Global)) (i : ℕ) (d : String Global) → i < length ws
    → nodes_from nodes ws i ≡ after_nodes nodes (string_bytes (get_or ws i d) ∷ map string_bytes (drop (suc i) ws))
from_word nodes ws i d h = ap (λ (l : List (String Global)). after_nodes nodes (map string_bytes l)) (drop-cons ws i d h)

pub nodes_more : (before after : List Node) (ws : List (String Global)) (i : ℕ) (d : String Global) → i < length ws
    → IsNodeAdded (node_of_text (string_bytes (get_or ws i d))) before after (Ok tt)
    → nodes_from before ws i ≡ nodes_from after ws (i + 1)
nodes_more before after ws i d h added =
    from_word before ws i d h
    ∙ node_added (node_of_text (string_bytes (get_or ws i d))) (string_bytes (get_or ws i d))
    (map string_bytes (drop (suc i) ws)) before after refl added
    ∙ ap (nodes_from after ws) (sym (add-one i))

pub nodes_end : (nodes : List Node) (ws : List (String Global)) (i : ℕ) → length ws ≤ i → nodes_from nodes ws i ≡ Some nodes
nodes_end nodes ws i h =
    ap (λ (l : List (String Global)). after_nodes nodes (map string_bytes l)) (drop_of_length-le ws h)
    ∙ ap Some (append-nil nodes)

-- a word that isn't read
pub nodes_unread : (before after : List Node) (ws : List (String Global)) (i : ℕ) (d : String Global) (fault : NodeFault)
    → nodes_of (map string_bytes ws) ≡ nodes_from before ws i → i < length ws
    → IsNodeAdded (node_of_text (string_bytes (get_or ws i d))) before after (Err fault)
    → AreRead {A = Global} (nodes_of (map string_bytes ws)) (Err fault)
nodes_unread before after ws i d fault e h added =
    unread Global (string_bytes (get_or ws i d)) (map string_bytes (drop (suc i) ws)) (nodes_of (map string_bytes ws)) before after
    fault (sym (from_word before ws i d h) ∙ sym e) added
