-- The steps by which a branch is taken, against what is to be made of the ancestry.
use Rattle.std.proofs.Common.{◌≡◌, ◌==◌, ℕ, ◌+◌, ◌<◌, ◌≤◌, true, false, cond, nat_lt, All, OnOk, lt-ltb, le-ltb, List, [], ◌∷◌}
use Rattle.std.proofs.Common.{length, get_or, drop, Option, Some, None, Result, Ok, Err, sym, ap, ◌∙◌, subst}
use Rattle.std.proofs.lemmas.List.{at_drop_more}
use Rattle.std.specs.Option.{option_map_or}
use Rattle.version_nodes.specs.Nodes.{Node}
use Rattle.version_nodes.specs.Trees.{Ancestry, knows, IsForest}
use Rattle.version_nodes.specs.Branches.{learn_all, or_conflict, base_on, base_all, first_repeat, branched, IsBranched, TakesMemory}
use Rattle.ancestry.specs.Changes.{Makes}
use Rattle.version_nodes.specs.declared.fault.BranchFault.{BranchFault}
use Rattle.version_nodes.specs.declared.fault.BranchFault.TheVariants.{EmptyBranch, Repeated, Conflict, TooLong, Memory}
use Rattle.ancestry.proofs.AncestorLemmas.{Course, course}

-- a refusal at a pair is the branch's
pub refused_at : (place : ℕ) (o : Option Ancestry) (f : Ancestry → Result Ancestry BranchFault) (fault : BranchFault)
    (t u : Ancestry)
    → Makes (or_conflict place o Ok) (Err fault) t → Makes (or_conflict place o f) (Err fault) u
refused_at place None f Memory t u h = tt
refused_at place None f EmptyBranch t u h = absurd (cc)
refused_at place None f (Repeated k) t u h = absurd (cc)
refused_at place None f (Conflict k) t u h = h
refused_at place None f TooLong t u h = absurd (cc)
refused_at place (Some a) f Memory t u h = tt
refused_at place (Some a) f EmptyBranch t u h = absurd (cc)
refused_at place (Some a) f (Repeated k) t u h = absurd (cc)
refused_at place (Some a) f (Conflict k) t u h = absurd (cc)
refused_at place (Some a) f TooLong t u h = absurd (cc)

-- a pair that is no conflict gives an ancestry
pub made_at : (place : ℕ) (o : Option Ancestry) (t : Ancestry) → or_conflict place o Ok ≡ Ok t → o ≡ Some t
made_at place None t h = absurd (cc)
made_at place (Some a) t h = cc

module _ (place : ℕ) (t : Ancestry) (n p : Node) (others : List Node) (within : place < length others)
    (is : p ≡ get_or others place p) where
  -- the nodes from a place on, the one above it first
  pub at_pair : base_all place t (n ∷ drop place others)
      ≡ or_conflict place (base_on t n p) (λ t'. base_all (place + 1) t' (p ∷ drop (place + 1) others))
  at_pair =
      at_drop_more (λ ns. base_all place t (n ∷ ns)) others place p within
      ∙ ap (λ q. base_all place t (n ∷ q ∷ drop (place + 1) others)) (sym is)

  pub after_pair : (t' : Ancestry) → base_on t n p ≡ Some t'
      → base_all place t (n ∷ drop place others) ≡ base_all (place + 1) t' (p ∷ drop (place + 1) others)
  after_pair t' h = at_pair ∙ ap (λ o. or_conflict place o (λ u. base_all (place + 1) u (p ∷ drop (place + 1) others))) h

-- one result in place of another that is equal
pub makes_same : (r s : Result Ancestry BranchFault) (o : Result (Unit {0}) BranchFault) (t : Ancestry) → r ≡ s → Makes r o t
    → Makes s o t
makes_same r s o t e h = subst (λ x. Makes x o t) e h

-- the laws of a branch that was taken
pub course_made : (t : Ancestry) (nodes : List Node) (o : Result (Unit {0}) BranchFault) (u : Ancestry) → IsForest t
    → All (λ n. knows t n ≡ true) nodes → Makes (base_all 0 t nodes) o u
    → OnOk o (Course t nodes u)
course_made t nodes (Ok x) u forest known h = course 0 t nodes u forest known h
course_made t nodes (Err fault) u forest known h = tt

-- ---- what is to be made of the ancestry, by the tests in their order

abbrev based_unless_repeated : Option ℕ → Ancestry → List Node → Result Ancestry BranchFault
based_unless_repeated repeat t nodes = option_map_or (λ place. Err (Repeated place)) repeat (base_all 0 (learn_all t nodes) nodes)

pub branched_empty : (t : Ancestry) (nodes : List Node) → (length nodes == 0) ≡ true → branched t nodes ≡ Err EmptyBranch
unfolding branched
branched_empty t nodes h =
    ap (λ b. cond b (Err EmptyBranch)
    (cond (nat_lt 200 (length nodes)) (Err TooLong) (based_unless_repeated (first_repeat nodes) t nodes))) h

branched_some : (t : Ancestry) (nodes : List Node) → (length nodes == 0) ≡ false
    → branched t nodes ≡ cond (nat_lt 200 (length nodes)) (Err TooLong) (based_unless_repeated (first_repeat nodes) t nodes)
unfolding branched
branched_some t nodes h =
    ap (λ b. cond b (Err EmptyBranch)
    (cond (nat_lt 200 (length nodes)) (Err TooLong) (based_unless_repeated (first_repeat nodes) t nodes))) h

pub branched_long : (t : Ancestry) (nodes : List Node) → (length nodes == 0) ≡ false → 200 < length nodes
    → branched t nodes ≡ Err TooLong
branched_long t nodes some long =
    branched_some t nodes some
    ∙ ap (λ b. cond b (Err TooLong) (based_unless_repeated (first_repeat nodes) t nodes)) (lt-ltb 200 (length nodes) long)

branched_short : (t : Ancestry) (nodes : List Node) → (length nodes == 0) ≡ false → length nodes ≤ 200
    → branched t nodes ≡ based_unless_repeated (first_repeat nodes) t nodes
branched_short t nodes some short =
    branched_some t nodes some
    ∙ ap (λ b. cond b (Err TooLong) (based_unless_repeated (first_repeat nodes) t nodes)) (le-ltb 200 (length nodes) short)

pub branched_repeated : (t : Ancestry) (nodes : List Node) (place : ℕ) → (length nodes == 0) ≡ false → length nodes ≤ 200
    → Some place ≡ first_repeat nodes → branched t nodes ≡ Err (Repeated place)
branched_repeated t nodes place some short h =
    branched_short t nodes some short ∙ ap (λ o. based_unless_repeated o t nodes) (sym h)

pub branched_taken : (t : Ancestry) (nodes : List Node) → (length nodes == 0) ≡ false → length nodes ≤ 200
    → None ≡ first_repeat nodes → branched t nodes ≡ base_all 0 (learn_all t nodes) nodes
branched_taken t nodes some short h = branched_short t nodes some short ∙ ap (λ o. based_unless_repeated o t nodes) (sym h)

-- a refusal, after which all is as before
pub refused : (t : Ancestry) (nodes : List Node) (r : Result Ancestry BranchFault) (fault : BranchFault) (w u : Ancestry)
    → branched t nodes ≡ r → Makes r (Err fault) w → u ≡ t → IsBranched t nodes (Err fault) u
refused t nodes r Memory w u e h same = same
refused t nodes r EmptyBranch w u e h same = (e ∙ h, same)
refused t nodes r (Repeated k) w u e h same = (e ∙ h, same)
refused t nodes r (Conflict k) w u e h same = (e ∙ h, same)
refused t nodes r TooLong w u e h same = (e ∙ h, same)

-- a branch that is based pair by pair can only meet a conflict
base_takes : (place : ℕ) (t : Ancestry) (nodes : List Node) → TakesMemory (base_all place t nodes)
base_takes place t [] = tt
base_takes place t (n ∷ []) = tt
base_takes place t (n ∷ p ∷ nodes) =
    at_pair_takes place (base_on t n p) (λ u. base_all (place + 1) u (p ∷ nodes)) (λ u. base_takes (place + 1) u (p ∷ nodes))
  where
    at_pair_takes : (place : ℕ) (o : Option Ancestry) (f : Ancestry → Result Ancestry BranchFault)
        → ((u : Ancestry) → TakesMemory (f u)) → TakesMemory (or_conflict place o f)
    at_pair_takes place None f h = tt
    at_pair_takes place (Some u) f h = h u

pub taken_takes : (t : Ancestry) (nodes : List Node) → (length nodes == 0) ≡ false → length nodes ≤ 200
    → None ≡ first_repeat nodes → TakesMemory (branched t nodes)
taken_takes t nodes some short h =
    subst TakesMemory (sym (branched_taken t nodes some short h)) (base_takes 0 (learn_all t nodes) nodes)
