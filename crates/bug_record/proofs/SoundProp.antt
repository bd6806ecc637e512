-- That a desk is sound is one fact: any two proofs of it are equal.
use Rattle.std.proofs.Common.{ℕ, List, [], ◌∷◌, map, Option, Some, None}
use Rattle.std.proofs.Props.{props}
use Rattle.std.specs.Coded.{×_prop, Unit-prop, le_prop}
use Rattle.std.specs.List.Sorted.{IsStrictlySortedBy-prop}
use Rattle.version_nodes.specs.Nodes.{Node, IsNode, node_cmp}
use Rattle.debver.specs.Names.{IsName}
use Rattle.version_nodes.proofs.ForestProp.{IsNode-prop, IsForest-prop}
use Rattle.base_sequences.specs.Sets.{AllAbove, IsAscending, Each}
use Rattle.base_words.specs.Texts.{IsGoodText, IfGiven}
use Rattle.bug_record.specs.Tags.{tag_place}
use Rattle.bug_record.specs.Marks.{IsNodeSet}
use Rattle.bug_record.specs.PackageSets.{name_cmp, IsNameSet}
use Rattle.bug_record.specs.Desk.{Desk, IsSound, IsMergedWith, IsGoodShared, AreGoodBlockers}
use Rattle.bug_record.specs.declared.bug.Shared.{Shared}
use Rattle.bug_record.specs.declared.bug.Bug.{Bug}

pub AllAbove-prop : (n : ℕ) (xs : List ℕ) → IsProp (AllAbove n xs)
AllAbove-prop n [] = Unit-prop
AllAbove-prop n (x ∷ xs) = ×_prop le_prop (AllAbove-prop n xs)

pub IsAscending-prop : (xs : List ℕ) → IsProp (IsAscending xs)
IsAscending-prop [] = Unit-prop
IsAscending-prop (x ∷ xs) = ×_prop (AllAbove-prop x xs) (IsAscending-prop xs)

pub IsMergedWith-prop : (b : Bug) (o : Option Bug) → IsProp (IsMergedWith b o)
IsMergedWith-prop b None = hlevel props
IsMergedWith-prop b (Some c) = hlevel props

Each-prop : {T : Type 0} (P : T → Type 0) → ((x : T) → IsProp (P x)) → (xs : List T) → IsProp (Each P xs)
Each-prop P h [] = Unit-prop
Each-prop P h (x ∷ xs) = ×_prop (h x) (Each-prop P h xs)

pub IsNodeSet-prop : (nodes : List Node) → IsProp (IsNodeSet nodes)
IsNodeSet-prop nodes = hlevel (props, IsStrictlySortedBy-prop node_cmp nodes, Each-prop IsNode IsNode-prop nodes)

IsNameSet-prop : (names : List (List ℕ)) → IsProp (IsNameSet names)
IsNameSet-prop names =
    hlevel (props, IsStrictlySortedBy-prop name_cmp names, Each-prop IsName (λ text. hlevel props) names)

IfGiven-prop : {T : Type 0} (P : T → Type 0) → ((x : T) → IsProp (P x)) → (o : Option T) → IsProp (IfGiven P o)
IfGiven-prop P h None = Unit-prop
IfGiven-prop P h (Some x) = h x

IsGoodText-prop : (text : List ℕ) → IsProp (IsGoodText text)
IsGoodText-prop text = hlevel props

IsGoodShared-prop : (f : Shared) → IsProp (IsGoodShared f)
IsGoodShared-prop f =
    hlevel (
      props,
      IfGiven-prop IsGoodText IsGoodText-prop f.forwarded,
      IfGiven-prop IsGoodText IsGoodText-prop f.owner,
      IsAscending-prop (map tag_place f.tags),
      IsNameSet-prop f.affects,
      IsNodeSet-prop f.found,
      IsNodeSet-prop f.fixed,
    )

AreGoodBlockers-prop : (d : Desk) (merged blockers : List ℕ) → IsProp (AreGoodBlockers d merged blockers)
AreGoodBlockers-prop d merged blockers = hlevel (props, IsAscending-prop)

pub IsSound-prop : (d : Desk) → IsProp (IsSound d)
IsSound-prop d = hlevel (props, IsAscending-prop, IsMergedWith-prop, IsGoodShared-prop, AreGoodBlockers-prop, IsForest-prop)
