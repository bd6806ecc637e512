-- That a list is an ancestry is one fact: any two proofs of it are equal.
-- And the list of no links is an ancestry.
use Rattle.std.proofs.Common.{ℕ, List, [], ◌∷◌, Option, Some, None, refl}
use Rattle.std.proofs.Props.{props}
use Rattle.std.specs.Coded.{Unit-prop}
use Rattle.std.specs.List.Sorted.{IsStrictlySortedBy}
use Rattle.debver.specs.Parts.{Version, HasParts, IsEpoch, IsRevision, PrecedesFirstColon, FollowsLastHyphen}
use Rattle.version_nodes.specs.Nodes.{Node, IsNode}
use Rattle.version_nodes.specs.Trees.{Ancestry, no_nodes, IsLine, IsForest}

IsEpoch-prop : (e : Option (List ℕ)) → IsProp (IsEpoch e)
IsEpoch-prop None = Unit-prop
IsEpoch-prop (Some e) = hlevel props

IsRevision-prop : (r : Option (List ℕ)) → IsProp (IsRevision r)
IsRevision-prop None = Unit-prop
IsRevision-prop (Some r) = hlevel props

PrecedesFirstColon-prop : (e : Option (List ℕ)) (rest : List ℕ) → IsProp (PrecedesFirstColon e rest)
PrecedesFirstColon-prop None rest = hlevel props
PrecedesFirstColon-prop (Some e) rest = hlevel props

FollowsLastHyphen-prop : (upstream : List ℕ) (r : Option (List ℕ)) → IsProp (FollowsLastHyphen upstream r)
FollowsLastHyphen-prop upstream None = hlevel props
FollowsLastHyphen-prop upstream (Some r) = hlevel props

HasParts-prop : (text : List ℕ) (v : Version) → IsProp (HasParts text v)
HasParts-prop text v = hlevel (props, IsEpoch-prop, IsRevision-prop, PrecedesFirstColon-prop, FollowsLastHyphen-prop)

pub IsNode-prop : (n : Node) → IsProp (IsNode n)
IsNode-prop n = hlevel (props, HasParts-prop)

pub Node-set : IsSet Node
Node-set = hlevel props

pub IsLine-prop : (t : Ancestry) (n : Node) (ns : List Node) → IsProp (IsLine t n ns)
IsLine-prop t n [] = hlevel props
IsLine-prop t n (m ∷ []) = hlevel (props, Node-set)
IsLine-prop t n (m ∷ p ∷ more) = hlevel (props, Node-set, IsLine-prop t p (p ∷ more))

pub IsForest-prop : (t : Ancestry) → IsProp (IsForest t)
IsForest-prop t = hlevel (props, Node-set, IsNode-prop, IsLine-prop)

pub no_nodes-forest : IsForest no_nodes
unfolding IsStrictlySortedBy
no_nodes-forest = record { ascending = tt; valid = λ n h. absurd (cc); parents = λ n p h. absurd (cc); lines = λ n. (refl, refl) }
