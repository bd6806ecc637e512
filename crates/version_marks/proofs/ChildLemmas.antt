-- The children of nodes, as one is added or taken out.
use Rattle.std.proofs.Common.{◌≡◌, Bool, true, false, cond, not, ◌||◌, ◌&&◌, [], Option, Some, None, OnErr, Result, Ok, Err}
use Rattle.std.proofs.Common.{sym, refl, ap, ◌∙◌, ⊎_elim}
use Rattle.std.proofs.lemmas.Bool.{cases_Bool}
use Rattle.std.specs.BTreeMap.{is_at}
use Rattle.std.specs.BTreeSet.{BTreeSet, contains}
use Rattle.std.specs.HashMap.{HashMap, get}
use Rattle.std.specs.List.{list_any}
use Rattle.std.specs.Option.{option_map_or, unwrap_or}
use Rattle.version_nodes.specs.Nodes.{Node, same_node, node_cmp}
use Rattle.version_nodes.specs.NodeLaws.{same_node_equiv}
use Rattle.version_nodes.proofs.NodeLemmas.{same_true, ties_same}
use Rattle.version_marks.specs.Children.{is_child}

abbrev pub in_set : Node → Option (BTreeSet Node) → Bool
in_set c o = option_map_or (λ cs. contains node_cmp cs c) o false

turned : (a b : Node) → is_at (node_cmp a) b ≡ same_node b a
turned a b = ties_same a b ∙ same_node_equiv.symm a b

pub on_err : {A E : Type 0} {P : Type 0} (r : Result A E) → P → OnErr r P
on_err (Ok x) h = tt
on_err (Err x) h = h

-- the children that are found, or none
pub found_or : (o : Option (BTreeSet Node)) (none s : BTreeSet Node) → none.keys ≡ [] → s ≡ unwrap_or o none → (c : Node)
    → in_set c o ≡ contains node_cmp s c
found_or (Some t) none s empty is c = sym (ap (λ cs. contains node_cmp cs c) is)
found_or None none s empty is c = sym (ap (λ cs. contains node_cmp cs c) is ∙ ap (list_any (is_at (node_cmp c))) empty)

-- the children of one node, if it has some, are changed at one of them
module _ {S : Type 0} (m m' : HashMap Node (BTreeSet Node) S) (n : Node) (s s' : BTreeSet Node)
    (here : (c : Node) → in_set c (get same_node m n) ≡ contains node_cmp s c)
    (made : (q : Node) → get same_node m' q ≡ cond (same_node n q) (Some s') (get same_node m q)) where
  set_at : (p c : Node) → is_child m' p c ≡ cond (same_node p n) (contains node_cmp s' c) (is_child m p c)
  set_at p c =
      ap (in_set c) (made p ∙ ap (λ b. cond b (Some s') (get same_node m p)) (same_node_equiv.symm n p))
      ∙ elim (same_node p n) as (λ b. in_set c (cond b (Some s') (get same_node m p))
      ≡ cond b (contains node_cmp s' c) (is_child m p c)) [ true ↦ refl | false ↦ refl ]

  was_at : (p c : Node) → same_node p n ≡ true → is_child m p c ≡ contains node_cmp s c
  was_at p c e = ap (λ z. in_set c (get same_node m z)) (same_true p n e) ∙ here c

  -- nothing is changed in it
  pub same_set : ((q : Node) → contains node_cmp s' q ≡ contains node_cmp s q) → (p c : Node) → is_child m' p c ≡ is_child m p c
  same_set same p c =
      set_at p c
      ∙ ⊎_elim
      (λ yes. ap (λ b. cond b (contains node_cmp s' c) (is_child m p c)) yes ∙ same c ∙ sym (was_at p c yes))
      (λ no. ap (λ b. cond b (contains node_cmp s' c) (is_child m p c)) no)
      (cases_Bool (same_node p n))

  module _ (k : Node) (b : Bool) (changed : (q : Node) → contains node_cmp s' q ≡ cond (is_at (node_cmp k) q) b (contains node_cmp s q))
    where
      child_at : (p c : Node) → is_child m' p c ≡ cond (same_node c k && same_node p n) b (is_child m p c)
      child_at p c =
          set_at p c
          ∙ ⊎_elim
          (λ yes. ap (λ d. cond d (contains node_cmp s' c) (is_child m p c)) yes ∙ changed c
          ∙ ap (λ d. cond d b (contains node_cmp s c)) (turned k c)
          ∙ ap (λ d. cond (same_node c k) b d) (sym (was_at p c yes))
          ∙ one (same_node c k) (same_node p n) yes)
          (λ no. ap (λ d. cond d (contains node_cmp s' c) (is_child m p c)) no ∙ none (same_node c k) (same_node p n) no)
          (cases_Bool (same_node p n))
        where
          one : (x y : Bool) → y ≡ true → cond x b (is_child m p c) ≡ cond (x && y) b (is_child m p c)
          one true y e = sym (ap (λ z. cond z b (is_child m p c)) e)
          one false y e = refl

          none : (x y : Bool) → y ≡ false → is_child m p c ≡ cond (x && y) b (is_child m p c)
          none true y e = sym (ap (λ z. cond z b (is_child m p c)) e)
          none false y e = refl

  pub added : (k : Node) → ((q : Node) → contains node_cmp s' q ≡ cond (is_at (node_cmp k) q) true (contains node_cmp s q))
      → (p c : Node) → is_child m' p c ≡ ((same_node c k && same_node p n) || is_child m p c)
  added k changed p c = child_at k true changed p c ∙ or (same_node c k && same_node p n)
    where
      or : (x : Bool) → cond x true (is_child m p c) ≡ (x || is_child m p c)
      or true = refl
      or false = refl

  pub removed : (k : Node) → ((q : Node) → contains node_cmp s' q ≡ cond (is_at (node_cmp k) q) false (contains node_cmp s q))
      → (p c : Node) → is_child m' p c ≡ (not (same_node c k && same_node p n) && is_child m p c)
  removed k changed p c = child_at k false changed p c ∙ and (same_node c k && same_node p n)
    where
      and : (x : Bool) → cond x false (is_child m p c) ≡ (not x && is_child m p c)
      and true = refl
      and false = refl
