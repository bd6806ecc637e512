-- After a branch the ancestry has grown by the changed nodes.
use Rattle.std.proofs.Common.{◌≡◌, Bool, true, false, not, ◌||◌, ◌&&◌, List, [], ◌∷◌, Option, Some, None, is_some, refl, sym, ap, ◌∙◌, subst}
use Rattle.std.specs.Prelude.{filter, is_none, All}
use Rattle.std.specs.List.{AllByRecursion}
use Rattle.std.specs.Option.{option_flatten}
use Rattle.std.proofs.lemmas.Bool.{false≢true}
use Rattle.std.proofs.lemmas.List.Elements.{recursion_from_All}
use Rattle.version_nodes.specs.Nodes.{Node}
use Rattle.version_nodes.specs.Trees.{Ancestry, IsForest, has_node, known_at, knows, parent_of}
use Rattle.version_nodes.specs.Branches.{Extends}
use Rattle.version_nodes.proofs.NodeLemmas.{has_cases}
use Rattle.version_marks.proofs.LineLemmas.{sees_still}
use Rattle.table_nodes.specs.Grown.{unknown_of, roots_of, changed_of, IsGrown}
use Rattle.table_nodes.proofs.NodeListLemmas.{has_append, has_filter}

-- a known node without a parent is a root
root_is : (o : Option (Option Node)) → is_some o ≡ true → is_some (option_flatten o) ≡ false → o ≡ Some None
root_is None h g = absurd (false≢true h)
root_is (Some None) h g = refl
root_is (Some (Some p)) h g = absurd (false≢true (sym g))

module _ (t u : Ancestry) (nodes : List Node) where
  abbrev changed : List Node
  changed = changed_of u (unknown_of t nodes) (roots_of t nodes)

  has_changed : (w : Node) → has_node changed w ≡ ((has_node nodes w && not (knows t w))
      || ((has_node nodes w && (knows t w && is_none (parent_of t w))) && is_some (parent_of u w)))
  has_changed w =
      has_append (unknown_of t nodes) (filter (λ n. is_some (parent_of u n)) (roots_of t nodes)) w
      ∙ ap (λ b. b || has_node (filter (λ n. is_some (parent_of u n)) (roots_of t nodes)) w) (has_filter (λ n. not (knows t n)) nodes w)
      ∙ ap (λ b. (has_node nodes w && not (knows t w)) || b)
      (has_filter (λ n. is_some (parent_of u n)) (roots_of t nodes) w
      ∙ ap (λ b. b && is_some (parent_of u w)) (has_filter (λ n. knows t n && is_none (parent_of t n)) nodes w))

  in_nodes : (w : Node) → has_node changed w ≡ true → has_node nodes w ≡ true
  in_nodes w h = cases (has_node nodes w) (not (knows t w)) (knows t w && is_none (parent_of t w)) (sym (has_changed w) ∙ h)
    where
      cases : (b p q : Bool) → ((b && p) || ((b && q) && is_some (parent_of u w))) ≡ true → b ≡ true
      cases true p q h = refl
      cases false p q h = absurd (false≢true h)

  module _ (ext : Extends t nodes u) where
    others : (w : Node) → has_node changed w ≡ false → known_at u w ≡ known_at t w
    others w h = cases (has_node nodes w) refl (known_at t w) refl (sym (has_changed w) ∙ h)
      where
        cases : (b : Bool) → has_node nodes w ≡ b → (o : Option (Option Node)) → known_at t w ≡ o
            → ((b && not (is_some o)) || ((b && (is_some o && is_none (option_flatten o))) && is_some (parent_of u w))) ≡ false
            → known_at u w ≡ o
        cases false e o f h = ext.others w (ap (λ b. b && is_none (parent_of t w)) e) ∙ f
        cases true e None f h = absurd (false≢true (sym h))
        cases true e (Some None) f h = root_is (known_at u w) (ext.kept w (ap is_some f)) h
        cases true e (Some (Some p)) f h =
            ext.others w (ap (λ b. b && is_none (parent_of t w)) e ∙ ap (λ (o : Option (Option Node)). is_none (option_flatten o)) f) ∙ f

    pub grown : IsForest t → IsForest u → All (λ n. knows u n ≡ true) nodes → IsGrown t u changed
    grown old new all = record {
      forest = new;
      others = others;
      known = λ w h. listed w nodes (recursion_from_All (λ n. knows u n ≡ true) nodes all) (in_nodes w h);
      sees = λ found fixed v near h. sees_still t u nodes found fixed v near old new ext h;
    }
      where
        listed : (w : Node) (ns : List Node) → AllByRecursion (λ n. knows u n ≡ true) ns → has_node ns w ≡ true → knows u w ≡ true
        listed w [] all h = absurd (false≢true h)
        listed w (n ∷ ns) all h = has_cases w n ns h (λ e. subst (λ (z : Node). knows u z ≡ true) (sym e) all.0) (λ more. listed w ns all.1 more)
