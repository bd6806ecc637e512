-- Which links a branch brings, and that the children are kept to them.
use Rattle.std.proofs.Common.{◌≡◌, ◌==◌, ℕ, ◌+◌, Bool, true, false, cond, not, ◌||◌, ◌&&◌, nat_lt, List, [], ◌∷◌, length, Option, Some, None}
use Rattle.std.proofs.Common.{is_some, Result, Ok, Err, sym, refl, ap, ◌∙◌, subst, ⊎_elim}
use Rattle.std.proofs.lemmas.Bool.{cases_Bool, false≢true}
use Rattle.std.specs.BTreeSet.{BTreeSet}
use Rattle.std.specs.HashMap.{HashMap}
use Rattle.std.specs.Option.{option_flatten, option_map_or}
use Rattle.version_nodes.specs.Nodes.{Node, same_node}
use Rattle.version_nodes.specs.Trees.{Ancestry, has_node, parent_of, line, is_ancestor}
use Rattle.version_nodes.specs.Branches.{learn, learn_all, with_parent, base_on, or_conflict, base_all, first_repeat, branched, IsBranched}
use Rattle.ancestry.specs.Links.{has_parent}
use Rattle.version_nodes.specs.declared.fault.BranchFault.{BranchFault}
use Rattle.version_nodes.specs.declared.fault.BranchFault.TheVariants.{EmptyBranch, Repeated, Conflict, TooLong, Memory}
use Rattle.version_nodes.proofs.NodeLemmas.{same_true, known_put, known_others}
use Rattle.ancestry.proofs.BranchLemmas.{learn_parents}
use Rattle.version_marks.specs.Children.{is_child, is_pair, AreChildren}

-- whether it is a link
abbrev is_link : Ancestry → Node → Node → Bool
is_link t c p = has_parent t c (Some p)

or_false : (a b : Bool) → (a || b) ≡ false → (a ≡ false) × (b ≡ false)
or_false true b h = absurd (false≢true (sym h))
or_false false b h = (refl, h)

-- ---- a root gets its parent

put_link : (t : Ancestry) (n q c p : Node) → parent_of t n ≡ None → (same_node c n && same_node p q) ≡ false
    → is_link (with_parent t n q) c p ≡ is_link t c p
put_link t n q c p root off =
    ⊎_elim
    (λ yes.
    ap (λ (z : Node). option_map_or (same_node p) (parent_of (with_parent t n q) z) false) (same_true c n yes)
    ∙ ap (λ o. option_map_or (same_node p) (option_flatten o) false) (known_put t n (Some q))
    ∙ sym (ap (λ b. b && same_node p q) yes) ∙ off
    ∙ sym (ap (λ o. option_map_or (same_node p) o false) (ap (parent_of t) (same_true c n yes) ∙ root)))
    (λ other. ap (λ o. option_map_or (same_node p) (option_flatten o) false) (known_others t n (Some q) c other))
    (cases_Bool (same_node c n))

learn_links : (t : Ancestry) (n c p : Node) → is_link (learn t n) c p ≡ is_link t c p
learn_links t n c p = ap (λ o. option_map_or (same_node p) o false) (learn_parents t n c)

learn_all_links : (t : Ancestry) (nodes : List Node) (c p : Node) → is_link (learn_all t nodes) c p ≡ is_link t c p
learn_all_links t [] c p = refl
learn_all_links t (n ∷ nodes) c p = learn_all_links (learn t n) nodes c p ∙ learn_links t n c p

-- ---- a branch

base_links : (t u : Ancestry) (n q c p : Node) → base_on t n q ≡ Some u → (same_node c n && same_node p q) ≡ false
    → is_link u c p ≡ is_link t c p
base_links t u n q c p h off = by_tests (is_ancestor t q n) (parent_of t n) refl (has_node (line t q) n) h
  where
    by_tests : (a : Bool) (o : Option Node) → parent_of t n ≡ o → (b : Bool)
        → cond a (Some t) (cond (is_some o || b) None (Some (with_parent t n q))) ≡ Some u → is_link u c p ≡ is_link t c p
    by_tests true o e b g = ap (λ (w : Ancestry). is_link w c p) (cc)
    by_tests false (Some m) e b g = absurd (cc)
    by_tests false None e true g = absurd (cc)
    by_tests false None e false g =
        subst (λ (w : Ancestry). is_link w c p ≡ is_link t c p) (cc) (put_link t n q c p e off)

based_links : (place : ℕ) (t u : Ancestry) (nodes : List Node) (c p : Node) → base_all place t nodes ≡ Ok u
    → is_pair nodes c p ≡ false → is_link u c p ≡ is_link t c p
based_links place t u [] c p h off = ap (λ (w : Ancestry). is_link w c p) (cc)
based_links place t u (n ∷ []) c p h off = ap (λ (w : Ancestry). is_link w c p) (cc)
based_links place t u (n ∷ q ∷ nodes) c p h off =
    at_pair (λ w g. based_links (place + 1) w u (q ∷ nodes) c p g two.1) (base_on t n q) refl h
  where
    two : ((same_node c n && same_node p q) ≡ false) × (is_pair (q ∷ nodes) c p ≡ false)
    two = or_false (same_node c n && same_node p q) (is_pair (q ∷ nodes) c p) off

    at_pair : ((w : Ancestry) → base_all (place + 1) w (q ∷ nodes) ≡ Ok u → is_link u c p ≡ is_link w c p)
        → (o : Option Ancestry) → base_on t n q ≡ o → or_conflict place o (λ w. base_all (place + 1) w (q ∷ nodes)) ≡ Ok u
        → is_link u c p ≡ is_link t c p
    at_pair again None e g = absurd (cc)
    at_pair again (Some w) e g = again w g ∙ base_links t w n q c p e two.0

branch_based : (t u : Ancestry) (nodes : List Node) → branched t nodes ≡ Ok u → base_all 0 (learn_all t nodes) nodes ≡ Ok u
unfolding branched
branch_based t u nodes h = by_tests (length nodes == 0) (nat_lt 200 (length nodes)) (first_repeat nodes) h
  where
    by_tests : (a b : Bool) (o : Option ℕ) → cond a (Err EmptyBranch) (cond b (Err TooLong) (option_map_or (λ place. Err (Repeated place)) o
        (base_all 0 (learn_all t nodes) nodes))) ≡ Ok u → base_all 0 (learn_all t nodes) nodes ≡ Ok u
    by_tests true b o g = absurd (cc)
    by_tests false true o g = absurd (cc)
    by_tests false false (Some k) g = absurd (cc)
    by_tests false false None g = g

-- a branch brings a link only between two nodes of it that stand next to each other
pub branch_links : (t u : Ancestry) (nodes : List Node) (r : Result (Unit {0}) BranchFault) → IsBranched t nodes r u
    → (p c : Node) → is_pair nodes c p ≡ false → is_link u c p ≡ is_link t c p
branch_links t u nodes (Ok x) h p c off =
    based_links 0 (learn_all t nodes) u nodes c p (branch_based t u nodes h) off ∙ learn_all_links t nodes c p
branch_links t u nodes (Err Memory) h p c off = ap (λ (w : Ancestry). is_link w c p) h
branch_links t u nodes (Err EmptyBranch) h p c off = ap (λ (w : Ancestry). is_link w c p) h.1
branch_links t u nodes (Err TooLong) h p c off = ap (λ (w : Ancestry). is_link w c p) h.1
branch_links t u nodes (Err (Repeated k)) h p c off = ap (λ (w : Ancestry). is_link w c p) h.1
branch_links t u nodes (Err (Conflict k)) h p c off = ap (λ (w : Ancestry). is_link w c p) h.1

-- ---- the children fit again

-- of what was added, the links alone are left
pub settled : {S : Type 0} (t : Ancestry) (mid new : HashMap Node (BTreeSet Node) S) (pair : Node → Node → Bool)
    → ((p c : Node) → pair c p ≡ false → is_child mid p c ≡ is_link t c p)
    → ((p c : Node) → pair c p ≡ true → is_link t c p ≡ true → is_child mid p c ≡ true)
    → ((p c : Node) → is_child new p c ≡ ((not (pair c p) || is_link t c p) && is_child mid p c))
    → AreChildren t new
settled t mid new pair others pairs made p c =
    made p c
    ∙ ⊎_elim
    (λ yes. ap (λ b. (not b || is_link t c p) && is_child mid p c) yes ∙ at_pair (is_link t c p) refl yes)
    (λ off. ap (λ b. (not b || is_link t c p) && is_child mid p c) off ∙ others p c off)
    (cases_Bool (pair c p))
  where
    at_pair : (b : Bool) → is_link t c p ≡ b → pair c p ≡ true → (b && is_child mid p c) ≡ is_link t c p
    at_pair true e h = pairs p c h e ∙ sym e
    at_pair false e h = sym e
