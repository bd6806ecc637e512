use Rattle.std.proofs.Common.{◌≡◌, length, map, drop}
use Rattle.version_nodes.specs.Trees.{Ancestry, known_at, IsForest}
use Rattle.version_nodes.specs.Branches.{Extends}
use Rattle.ancestry.specs.Changes.{past_of}
use Rattle.ancestry.proofs.branch.put_back.Given as goal

abbrev pub invariant-loop-node : goal.invariant-loop-node
invariant-loop-node l =
    (t : Ancestry) → IsForest t → l.pasts ≡ map (λ n. past_of (known_at t n)) l.nodes → Extends t l.nodes l.fn.links.entries
    → Extends t (drop (length l.yielded) l.nodes) l.links.entries
