-- Nodes in lists of two parts, and in filtered ones.
use Rattle.std.proofs.Common.{◌≡◌, Bool, true, false, cond, ◌||◌, ◌&&◌, List, [], ◌∷◌, ◌++◌, refl, sym, ap, ◌∙◌}
use Rattle.std.specs.Prelude.{filter}
use Rattle.version_nodes.specs.Nodes.{Node, same_node}
use Rattle.version_nodes.specs.Trees.{has_node}
use Rattle.version_nodes.proofs.NodeLemmas.{same_true}

and_false : (a : Bool) → (a && false) ≡ false
and_false true = refl
and_false false = refl

or_or : (a b c : Bool) → (a || (b || c)) ≡ ((a || b) || c)
or_or true b c = refl
or_or false b c = refl

pub has_append : (xs ys : List Node) (v : Node) → has_node (xs ++ ys) v ≡ (has_node xs v || has_node ys v)
has_append [] ys v = refl
has_append (x ∷ xs) ys v =
    ap (λ b. same_node v x || b) (has_append xs ys v) ∙ or_or (same_node v x) (has_node xs v) (has_node ys v)

pub has_filter : (p : Node → Bool) (xs : List Node) (v : Node) → has_node (filter p xs) v ≡ (has_node xs v && p v)
has_filter p [] v = refl
has_filter p (x ∷ xs) v = first (has_filter p xs v) (p x) refl (same_node v x) refl
  where
    first : has_node (filter p xs) v ≡ (has_node xs v && p v) → (b : Bool) → p x ≡ b → (s : Bool) → same_node v x ≡ s
        → has_node (cond b (x ∷ filter p xs) (filter p xs)) v ≡ ((s || has_node xs v) && p v)
    first again true k true e =
        ap (λ s. s || has_node (filter p xs) v) e ∙ sym (ap p (same_true v x e) ∙ k)
    first again true k false e = ap (λ s. s || has_node (filter p xs) v) e ∙ again
    first again false k true e =
        let off = ap p (same_true v x e) ∙ k in
        again ∙ ap (λ b. has_node xs v && b) off ∙ and_false (has_node xs v) ∙ sym off
    first again false k false e = again
