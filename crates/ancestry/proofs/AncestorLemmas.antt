-- Proper ancestors through a branch: none is lost, and the nodes of the branch are proper ancestors
-- of those before them.
use Rattle.std.proofs.Common.{◌≡◌, ℕ, ◌+◌, Bool, true, false, ◌||◌, cond, List, [], ◌∷◌, ◌++◌, drop, Option, Some, None, is_some}
use Rattle.std.proofs.Common.{Ok, All, refl, sym, ap, ◌∙◌, subst, ⊎_elim, append-nil}
use Rattle.std.proofs.lemmas.Bool.{cases_Bool, false≢true, or_left, or_right}
use Rattle.std.proofs.lemmas.List.Elements.{All-nil, All-cons, All-head, All-tail, All-weaker}
use Rattle.std.specs.BTreeMap.{insert_entry}
use Rattle.version_nodes.specs.Nodes.{Node, same_node, node_cmp}
use Rattle.version_nodes.specs.Trees.{Ancestry, has_node, knows, parent_of, IsLine, line, is_ancestor, IsForest}
use Rattle.version_nodes.specs.Branches.{learn, learn_all, with_parent, base_on, base_all, or_conflict, AreBased}
use Rattle.version_nodes.proofs.NodeLemmas.{has_tail}
use Rattle.ancestry.proofs.LineLemmas.{line_is, line_begins, rest_from}
use Rattle.ancestry.proofs.BranchLemmas.{Longer, knows_kept, knows_put, learnt_lines, based_line, longer, based_forest}
use Rattle.ancestry.proofs.WholeLemmas.{none_of}

-- ---- lists of nodes

has_front : (q : Node) (xs ys : List Node) → has_node xs q ≡ true → has_node (xs ++ ys) q ≡ true
has_front q [] ys h = absurd (false≢true h)
has_front q (x ∷ xs) ys h =
    ⊎_elim
    (λ yes. or_left (same_node q x) (has_node (xs ++ ys) q) yes)
    (λ off. or_right (same_node q x) (has_node (xs ++ ys) q) (has_front q xs ys (sym (ap (λ b. b || has_node xs q) off) ∙ h)))
    (cases_Bool (same_node q x))

after_front : (q : Node) (xs ys : List Node) → has_node (drop 1 xs) q ≡ true → has_node (drop 1 (xs ++ ys)) q ≡ true
after_front q [] ys h = absurd (false≢true h)
after_front q (x ∷ xs) ys h = has_front q xs ys h

has_after : (q : Node) (xs : List Node) → has_node (drop 1 xs) q ≡ true → has_node xs q ≡ true
has_after q [] h = absurd (false≢true h)
has_after q (x ∷ xs) h = has_tail q x xs h

-- ---- proper ancestors

-- no proper ancestor is lost
abbrev pub Keeps : Ancestry → Ancestry → Type 0
Keeps t u = (n p : Node) → is_ancestor t p n ≡ true → is_ancestor u p n ≡ true

keeps_longer : (t u : Ancestry) → IsForest u → ((q : Node) → Longer u q (line t q)) → Keeps t u
keeps_longer t u after longer n p h =
    let l = longer n in
    subst (λ ns. has_node (drop 1 ns) p ≡ true) (line_is u n (line t n ++ l.more) after l.is) (after_front p (line t n) l.more h)

same_longer : (u : Ancestry) (q : Node) (ns : List Node) → IsLine u q ns → Longer u q ns
same_longer u q ns h = record { more = []; is = subst (IsLine u q) (sym (append-nil ns)) h }

above_above : (t : Ancestry) (n p q : Node) (ns : List Node) → IsForest t → IsLine t n ns → has_node (drop 1 ns) p ≡ true
    → is_ancestor t q p ≡ true → has_node (drop 1 ns) q ≡ true
above_above t n p q [] forest h g f = absurd (false≢true g)
above_above t n p q (a ∷ []) forest h g f = absurd (false≢true g)
above_above t n p q (a ∷ b ∷ more) forest h g f =
    let r = rest_from t b p (b ∷ more) h.2 g in
    r.within q (subst (λ ms. has_node ms q ≡ true) (sym (line_is t p r.rest forest r.is)) (has_after q (line t p) f))

-- a proper ancestor's proper ancestors are the node's
pub ancestor_trans : (t : Ancestry) (n p q : Node) → IsForest t → is_ancestor t p n ≡ true → is_ancestor t q p ≡ true
    → is_ancestor t q n ≡ true
ancestor_trans t n p q forest = above_above t n p q (line t n) forest (forest.lines n)

-- ---- a pair of a branch

pub record Step (t : Ancestry) (n p : Node) (u : Ancestry) : Type 0 where
  pub forest : IsForest u
  pub known : (q : Node) → knows t q ≡ true → knows u q ≡ true
  pub keeps : Keeps t u
  pub based : is_ancestor u p n ≡ true

pub step : (t : Ancestry) (n p : Node) (u : Ancestry) → IsForest t → knows t n ≡ true → knows t p ≡ true → base_on t n p ≡ Some u
    → Step t n p u
step t n p u forest known-n known-p h =
    by_tests (is_ancestor t p n) (is_some (parent_of t n)) (has_node (line t p) n) refl refl refl h
  where
    there : t ≡ u → is_ancestor t p n ≡ true → Step t n p u
    there e above = subst (Step t n p) e (record { forest = forest; known = λ q g. g; keeps = λ m r g. g; based = above })

    new : with_parent t n p ≡ u → parent_of t n ≡ None → has_node (line t p) n ≡ false → Step t n p u
    new e root apart =
        let after = based_forest t n p forest known-n known-p root apart in
        subst (Step t n p) e (record {
          forest = after;
          known = knows_kept t n (Some p);
          keeps = keeps_longer t (with_parent t n p) after
              (λ q. longer t n p forest known-n known-p root apart q (line t q) (forest.lines q));
          based = subst (λ ns. has_node (drop 1 ns) p ≡ true)
              (line_is (with_parent t n p) n (n ∷ line t p) after (based_line t n p forest known-n known-p root apart))
              (line_begins t p (line t p) (forest.lines p));
        })

    by_tests : (a b c : Bool) → is_ancestor t p n ≡ a → is_some (parent_of t n) ≡ b → has_node (line t p) n ≡ c
        → cond a (Some t) (cond (b || c) None (Some (with_parent t n p))) ≡ Some u → Step t n p u
    by_tests true b c ea eb ec g = there (cc) ea
    by_tests false true c ea eb ec g = absurd (cc)
    by_tests false false true ea eb ec g = absurd (cc)
    by_tests false false false ea eb ec g = new (cc) (none_of (parent_of t n) eb) ec

-- ---- the pairs of a branch

pub record Course (t : Ancestry) (nodes : List Node) (u : Ancestry) : Type 0 where
  pub forest : IsForest u
  pub known : (q : Node) → knows t q ≡ true → knows u q ≡ true
  pub keeps : Keeps t u
  pub based : AreBased u nodes

same_course : (t : Ancestry) (nodes : List Node) (u : Ancestry) → IsForest t → AreBased t nodes → t ≡ u → Course t nodes u
same_course t nodes u forest based e =
    subst (Course t nodes) e (record { forest = forest; known = λ q g. g; keeps = λ m r g. g; based = based })

more_course : (t : Ancestry) (n p : Node) (nodes : List Node) (t' u : Ancestry) → Step t n p t' → Course t' (p ∷ nodes) u
    → Course t (n ∷ p ∷ nodes) u
more_course t n p nodes t' u s c =
    let here : is_ancestor u p n ≡ true = c.keeps n p s.based in
    record {
      forest = c.forest;
      known = λ q g. c.known q (s.known q g);
      keeps = λ m r g. c.keeps m r (s.keeps m r g);
      based = (
        All-cons (λ r. is_ancestor u r n ≡ true) p nodes here
            (All-weaker (λ r. is_ancestor u r p ≡ true) (λ r. is_ancestor u r n ≡ true)
            (λ r g. ancestor_trans u n p r c.forest here g) nodes c.based.0),
        c.based,
      );
    }

pub course : (place : ℕ) (t : Ancestry) (nodes : List Node) (u : Ancestry) → IsForest t → All (λ n. knows t n ≡ true) nodes
    → base_all place t nodes ≡ Ok u → Course t nodes u
course place t [] u forest known h = same_course t [] u forest tt (cc)
course place t (n ∷ []) u forest known h = same_course t (n ∷ []) u forest (All-nil (λ r. is_ancestor t r n ≡ true), tt) (cc)
course place t (n ∷ p ∷ nodes) u forest known h =
    by_pair (base_on t n p) refl (λ t' forest' known' g. course (place + 1) t' (p ∷ nodes) u forest' known' g) h
  where
    by_pair : (o : Option Ancestry) → base_on t n p ≡ o
        → ((t' : Ancestry) → IsForest t' → All (λ q. knows t' q ≡ true) (p ∷ nodes) → base_all (place + 1) t' (p ∷ nodes) ≡ Ok u
        → Course t' (p ∷ nodes) u)
        → or_conflict place o (λ t'. base_all (place + 1) t' (p ∷ nodes)) ≡ Ok u → Course t (n ∷ p ∷ nodes) u
    by_pair None e again g = absurd (cc)
    by_pair (Some t') e again g =
        let tail = All-tail (λ q. knows t q ≡ true) n (p ∷ nodes) known in
        let s = step t n p t' forest (All-head (λ q. knows t q ≡ true) n (p ∷ nodes) known)
        (All-head (λ q. knows t q ≡ true) p nodes tail) e in
        more_course t n p nodes t' u s
        (again t' s.forest (All-weaker (λ q. knows t q ≡ true) (λ q. knows t' q ≡ true) s.known (p ∷ nodes) tail) g)

-- ---- the nodes become known

learn_lines : (t : Ancestry) (n q : Node) (ns : List Node) → IsLine t q ns → IsLine (learn t n) q ns
learn_lines t n q ns h =
    ⊎_elim
    (λ yes. subst (λ u. IsLine u q ns) (sym (ap (λ b. cond b t (insert_entry node_cmp t n None)) yes)) h)
    (λ off. subst (λ u. IsLine u q ns) (sym (ap (λ b. cond b t (insert_entry node_cmp t n None)) off))
    (learnt_lines t n off q ns h))
    (cases_Bool (knows t n))

pub learn_kept : (t : Ancestry) (n q : Node) → knows t q ≡ true → knows (learn t n) q ≡ true
learn_kept t n q h =
    ⊎_elim
    (λ yes. subst (λ u. knows u q ≡ true) (sym (ap (λ b. cond b t (insert_entry node_cmp t n None)) yes)) h)
    (λ off. subst (λ u. knows u q ≡ true) (sym (ap (λ b. cond b t (insert_entry node_cmp t n None)) off))
    (knows_kept t n None q h))
    (cases_Bool (knows t n))

pub learn_known : (t : Ancestry) (n : Node) → knows (learn t n) n ≡ true
learn_known t n =
    ⊎_elim
    (λ yes. subst (λ u. knows u n ≡ true) (sym (ap (λ b. cond b t (insert_entry node_cmp t n None)) yes)) yes)
    (λ off. subst (λ u. knows u n ≡ true) (sym (ap (λ b. cond b t (insert_entry node_cmp t n None)) off)) (knows_put t n None))
    (cases_Bool (knows t n))

pub learn_all_lines : (t : Ancestry) (nodes : List Node) (q : Node) (ns : List Node) → IsLine t q ns → IsLine (learn_all t nodes) q ns
learn_all_lines t [] q ns h = h
learn_all_lines t (n ∷ nodes) q ns h = learn_all_lines (learn t n) nodes q ns (learn_lines t n q ns h)

pub learn_all_kept : (t : Ancestry) (nodes : List Node) (q : Node) → knows t q ≡ true → knows (learn_all t nodes) q ≡ true
learn_all_kept t [] q h = h
learn_all_kept t (n ∷ nodes) q h = learn_all_kept (learn t n) nodes q (learn_kept t n q h)

pub learn_all_known : (t : Ancestry) (nodes : List Node) → All (λ n. knows (learn_all t nodes) n ≡ true) nodes
learn_all_known t [] = All-nil (λ n. knows t n ≡ true)
learn_all_known t (n ∷ nodes) =
    All-cons (λ m. knows (learn_all (learn t n) nodes) m ≡ true) n nodes (learn_all_kept (learn t n) nodes n (learn_known t n))
    (learn_all_known (learn t n) nodes)

pub learn_all_keeps : (t : Ancestry) (nodes : List Node) → IsForest t → IsForest (learn_all t nodes) → Keeps t (learn_all t nodes)
learn_all_keeps t nodes forest after =
    keeps_longer t (learn_all t nodes) after
    (λ q. same_longer (learn_all t nodes) q (line t q) (learn_all_lines t nodes q (line t q) (forest.lines q)))
