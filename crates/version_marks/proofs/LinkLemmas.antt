-- The links of a tree, as one goes over them.
use Rattle.std.proofs.Common.{◌≡◌, Bool, true, false, ◌||◌, ◌&&◌, ◌∷◌, Option, Some, None, sym, refl, ap, ◌∙◌, ⊎_elim}
use Rattle.std.proofs.lemmas.Bool.{cases_Bool}
use Rattle.std.proofs.lemmas.Map.Keys.{sorted_head, sorted_tail}
use Rattle.std.specs.List.Sorted.{IsStrictlySortedBy}
use Rattle.std.specs.Map.{keys_of}
use Rattle.std.specs.Option.{option_flatten, option_map_or}
use Rattle.version_nodes.specs.Nodes.{Node, same_node, node_cmp}
use Rattle.version_nodes.specs.Trees.{Ancestry, known_at}
use Rattle.version_nodes.proofs.NodeLemmas.{same_true, at_first, past_first}
use Rattle.ancestry.specs.Links.{has_parent}
use Rattle.ancestry.proofs.LinkLemmas.{unknown_below}

pub or_none : (b : Bool) → (b || false) ≡ b
or_none true = refl
or_none false = refl

and_none : (b : Bool) → (b && false) ≡ false
and_none true = refl
and_none false = refl

or_turn : (a b c : Bool) → ((a || b) || c) ≡ (b || (a || c))
or_turn true true c = refl
or_turn true false c = refl
or_turn false b c = refl

abbrev is_parent_of : Option Node → Node → Bool
is_parent_of up p = option_map_or (same_node p) up false

-- the links are those that are left and those of the children
pub record Gathered (t left : Ancestry) (is : Node → Node → Bool) : Type 0 where
  pub ascending : IsStrictlySortedBy node_cmp (keys_of left)
  pub links : (p c : Node) → (is p c || has_parent left c (Some p)) ≡ has_parent t c (Some p)

-- the first of the links, and the others
first_link : (n : Node) (up : Option Node) (left : Ancestry) → IsStrictlySortedBy node_cmp (keys_of ((n, up) ∷ left)) → (p c : Node)
    → has_parent ((n, up) ∷ left) c (Some p) ≡ ((same_node c n && is_parent_of up p) || has_parent left c (Some p))
first_link n up left ascending p c =
    ⊎_elim
    (λ yes.
    let is = same_true c n yes in
    let none = ap (known_at left) is ∙ unknown_below n left (sorted_head node_cmp n (keys_of left) ascending) in
    ap (λ o. is_parent_of (option_flatten o) p) (ap (known_at ((n, up) ∷ left)) is ∙ at_first n up left)
    ∙ sym (or_none (is_parent_of up p))
    ∙ sym (ap (λ o. is_parent_of up p || is_parent_of (option_flatten o) p) none)
    ∙ sym (ap (λ b. (b && is_parent_of up p) || has_parent left c (Some p)) yes))
    (λ other. ap (λ o. is_parent_of (option_flatten o) p) (past_first c n up left other)
    ∙ sym (ap (λ b. (b && is_parent_of up p) || has_parent left c (Some p)) other))
    (cases_Bool (same_node c n))

-- one link more is seen to
module _ (t left : Ancestry) (n : Node) (up : Option Node) (was : Node → Node → Bool) (so_far : Gathered t ((n, up) ∷ left) was) where
  pub child_gathered : (now : Node → Node → Bool) (parent : Node) → up ≡ Some parent
      → ((p c : Node) → now p c ≡ ((same_node c n && same_node p parent) || was p c)) → Gathered t left now
  child_gathered now parent is made = record {
    ascending = sorted_tail node_cmp n (keys_of left) so_far.ascending;
    links = λ p c.
        ap (λ b. b || has_parent left c (Some p))
        (made p c ∙ sym (ap (λ o. (same_node c n && is_parent_of o p) || was p c) is))
        ∙ or_turn (same_node c n && is_parent_of up p) (was p c) (has_parent left c (Some p))
        ∙ ap (λ b. was p c || b) (sym (first_link n up left so_far.ascending p c)) ∙ so_far.links p c;
  }

  pub root_gathered : up ≡ None → Gathered t left was
  root_gathered is = record {
    ascending = sorted_tail node_cmp n (keys_of left) so_far.ascending;
    links = λ p c.
        sym (ap (λ b. was p c || b) (first_link n up left so_far.ascending p c
        ∙ ap (λ o. (same_node c n && is_parent_of o p) || has_parent left c (Some p)) is
        ∙ ap (λ b. b || has_parent left c (Some p)) (and_none (same_node c n))))
        ∙ so_far.links p c;
  }
