-- What the edits of a branch make of a content.
use Rattle.std.proofs.Common.{◌≡◌, ◌≤◌, ℕ, Bool, true, false, cond, ◌||◌, ◌&&◌, List, [], ◌∷◌, ◌++◌, Option, Some, None, sym, refl, ap, ◌∙◌, subst}
use Rattle.std.specs.Prelude.{filter, not, is_some, ◌==◌}
use Rattle.std.specs.Option.{option_or, option_flatten}
use Rattle.std.specs.Map.{keys_of}
use Rattle.std.specs.BTreeMap.{insert_entry}
use Rattle.std.specs.List.Sorted.{IsStrictlySortedBy}
use Rattle.std.proofs.lemmas.Bool.{false≢true, eqb-true, eq-eqb}
use Rattle.std.proofs.lemmas.Option.{none-some}
use Rattle.std.proofs.lemmas.List.Kept.{IsStrictlySortedBy-filter}
use Rattle.base_words.specs.declared.named.TheConstants.{LARGEST_NUMBER}
use Rattle.version_nodes.specs.Nodes.{Node, same_node, node_cmp}
use Rattle.version_nodes.specs.NodeLaws.{same_node_equiv}
use Rattle.version_nodes.specs.Trees.{Ancestry, IsForest, has_node, known_at, parent_of}
use Rattle.version_nodes.proofs.NodeLemmas.{same_true, same_itself, same_back, past_first, at_first, known_put, known_others}
use Rattle.ancestry.proofs.LinkLemmas.{ascends_put, same_links}
use Rattle.bug_record.specs.Sets.{Each}
use Rattle.version_marks.specs.Nearest.{nearest_of}
use Rattle.version_marks.specs.declared.near.Near.{Near}
use Rattle.table_content.specs.Content.{Content}
use Rattle.table_content.specs.Edits.{edited_all}
use Rattle.table_content.specs.Free.{AreFree}
use Rattle.table_content.specs.Branches.{with_nodes, ChangesNodes, AreMissing, set_row_at, stand_once}
use Rattle.table_content.specs.BranchLists.{link_puts, set_near_puts}
use Rattle.table_content.specs.declared.branches.SetNear.{SetNear}
use Rattle.table_content.proofs.EditLemmas.{same_content, edited_all-append}
use Rattle.table_content.proofs.FreeLemmas.{free-append}

-- ---- links

abbrev out_of : Node → Ancestry → Ancestry
out_of v t = filter (λ e. not (same_node v e.0)) t

known_out : (v : Node) (t : Ancestry) (q : Node) → known_at (out_of v t) q ≡ cond (same_node v q) None (known_at t q)
known_out v [] q = elim (same_node v q) as (λ b. ◌≡◌ {A = Option (Option Node)} None (cond b None None)) [ true ↦ refl | false ↦ refl ]
known_out v (e ∷ t) q =
    elim (same_node v e.0) as (λ b. same_node v e.0 ≡ b → known_at (cond (not b) (e ∷ out_of v t) (out_of v t)) q
    ≡ cond (same_node v q) None (known_at (e ∷ t) q)) [
      | true ↦ λ h. known_out v t q ∙ gone h (same_node v q) refl
      | false ↦ λ h. first (known_out v t q) h (same_node q e.0) refl
    ] refl
  where
    gone : same_node v e.0 ≡ true → (s : Bool) → same_node v q ≡ s → cond s None (known_at t q) ≡ cond s None (known_at (e ∷ t) q)
    gone h true k = refl
    gone h false k = sym (past_first q e.0 e.1 t (subst (λ (z : Node). same_node q z ≡ false) (same_true v e.0 h) (same_back v q k)))

    first : known_at (out_of v t) q ≡ cond (same_node v q) None (known_at t q) → same_node v e.0 ≡ false → (b : Bool)
        → same_node q e.0 ≡ b → known_at (e ∷ out_of v t) q ≡ cond (same_node v q) None (known_at (e ∷ t) q)
    first again h true k =
        let is : q ≡ e.0 = same_true q e.0 k in
        subst (λ (z : Node). known_at (e ∷ out_of v t) z ≡ cond (same_node v z) None (known_at (e ∷ t) z)) (sym is)
        (at_first e.0 e.1 (out_of v t) ∙ sym (ap (λ b. cond b None (known_at (e ∷ t) e.0)) h ∙ at_first e.0 e.1 t))
    first again h false k =
        past_first q e.0 e.1 (out_of v t) k ∙ again
        ∙ sym (ap (λ (o : Option (Option Node)). cond (same_node v q) None o) (past_first q e.0 e.1 t k))

keys_out : (v : Node) (t : Ancestry) → keys_of (out_of v t) ≡ filter (λ n. not (same_node v n)) (keys_of t)
keys_out v [] = refl
keys_out v (e ∷ t) =
    elim (same_node v e.0) as (λ b. keys_of (cond (not b) (e ∷ out_of v t) (out_of v t))
    ≡ cond (not b) (e.0 ∷ filter (λ n. not (same_node v n)) (keys_of t)) (filter (λ n. not (same_node v n)) (keys_of t)))
    [ true ↦ keys_out v t | false ↦ ap (λ ns. e.0 ∷ ns) (keys_out v t) ]

sorted_out : (v : Node) (t : Ancestry) → IsStrictlySortedBy node_cmp (keys_of t) → IsStrictlySortedBy node_cmp (keys_of (out_of v t))
sorted_out v t h = subst (IsStrictlySortedBy node_cmp) (sym (keys_out v t))
    (IsStrictlySortedBy-filter node_cmp (λ n. not (same_node v n)) (keys_of t) h)

-- the nodes come anew, as t has them
abbrev linked_as : Ancestry → List Node → Ancestry → Ancestry
linked_as t [] u = u
linked_as t (v ∷ vs) u = linked_as t vs (insert_entry node_cmp (out_of v u) v (parent_of t v))

links_put : (t : Ancestry) (vs : List Node) (c : Content) → edited_all (link_puts t vs) c ≡ record c { nodes = linked_as t vs c.nodes }
links_put t [] c = refl
links_put t (v ∷ vs) c = links_put t vs (record c { nodes = insert_entry node_cmp (out_of v c.nodes) v (parent_of t v) })

sorted_linked : (t : Ancestry) (vs : List Node) (u : Ancestry) → IsStrictlySortedBy node_cmp (keys_of u)
    → IsStrictlySortedBy node_cmp (keys_of (linked_as t vs u))
sorted_linked t [] u h = h
sorted_linked t (v ∷ vs) u h =
    sorted_linked t vs (insert_entry node_cmp (out_of v u) v (parent_of t v)) (ascends_put (out_of v u) v (parent_of t v) (sorted_out v u h))

known_linked : (t : Ancestry) (vs : List Node) (u : Ancestry) (q : Node)
    → known_at (linked_as t vs u) q ≡ cond (has_node vs q) (Some (parent_of t q)) (known_at u q)
known_linked t [] u q = refl
known_linked t (v ∷ vs) u q =
    known_linked t vs (insert_entry node_cmp (out_of v u) v (parent_of t v)) q ∙ cases (same_node q v) refl
  where
    here : (b : Bool) → cond b (Some (parent_of t q)) (Some (parent_of t q)) ≡ Some (parent_of t q)
    here true = refl
    here false = refl

    cases : (b : Bool) → same_node q v ≡ b
        → cond (has_node vs q) (Some (parent_of t q)) (known_at (insert_entry node_cmp (out_of v u) v (parent_of t v)) q)
        ≡ cond (b || has_node vs q) (Some (parent_of t q)) (known_at u q)
    cases true e =
        ap (λ (o : Option (Option Node)). cond (has_node vs q) (Some (parent_of t q)) o)
        (subst (λ (z : Node). known_at (insert_entry node_cmp (out_of v u) v (parent_of t v)) z ≡ Some (parent_of t z)) (sym (same_true q v e))
        (known_put (out_of v u) v (parent_of t v)))
        ∙ here (has_node vs q)
    cases false e =
        ap (λ (o : Option (Option Node)). cond (has_node vs q) (Some (parent_of t q)) o)
        (known_others (out_of v u) v (parent_of t v) q e ∙ known_out v u q
        ∙ ap (λ b. cond b None (known_at u q)) (sym (same_node_equiv.symm q v) ∙ e))

linked_is : (c : Content) (t : Ancestry) (vs : List Node) → ChangesNodes c t vs → IsForest c.nodes → linked_as t vs c.nodes ≡ t
linked_is c t vs changes old =
    same_links (linked_as t vs c.nodes) t (sorted_linked t vs c.nodes old.ascending) changes.forest.ascending
    (λ q. known_linked t vs c.nodes q ∙ cases q (has_node vs q) refl)
  where
    of_known : (q : Node) (o : Option (Option Node)) → known_at t q ≡ o → is_some o ≡ true → Some (option_flatten o) ≡ o
    of_known q None e h = absurd (false≢true h)
    of_known q (Some p) e h = refl

    cases : (q : Node) (b : Bool) → has_node vs q ≡ b → cond b (Some (parent_of t q)) (known_at c.nodes q) ≡ known_at t q
    cases q true e = of_known q (known_at t q) refl (changes.known q e)
    cases q false e = sym (changes.others q e)

links_free : (t : Ancestry) (vs : List Node) (c : Content) → AreFree (link_puts t vs) c
links_free t [] c = tt
links_free t (v ∷ vs) c = (
  tt,
  (ap is_some (known_out v c.nodes v ∙ ap (λ b. cond b None (known_at c.nodes v)) (same_itself v)), links_free t vs _),
)

-- ---- nearest marks

abbrev near_each : List SetNear → (ℕ → Node → Option Near) → ℕ → Node → Option Near
near_each [] f = f
near_each (r ∷ rows) f = near_each rows (λ k v. cond ((r.key == k) && same_node r.row.node v) (Some r.row.near) (f k v))

near_put : (rows : List SetNear) (c : Content) → edited_all (set_near_puts rows) c ≡ record c { near = near_each rows c.near }
near_put [] c = refl
near_put (r ∷ rows) c =
    near_put rows (record c { near = λ k v. cond ((r.key == k) && same_node r.row.node v) (Some r.row.near) (c.near k v) })

-- a row for just this set and node
only_at : (r : SetNear) (rows : List SetNear) → set_row_at rows r.key r.row.node ≡ None → (k : ℕ) (v : Node)
    → ((r.key == k) && same_node r.row.node v) ≡ true → set_row_at rows k v ≡ None
only_at r rows none k v h =
    let two = both_true (r.key == k) (same_node r.row.node v) h in
    subst (λ z. set_row_at rows z v ≡ None) (eqb-true r.key k two.0)
    (subst (λ (z : Node). set_row_at rows r.key z ≡ None) (same_true r.row.node v two.1) none)
  where
    both_true : (a b : Bool) → (a && b) ≡ true → (a ≡ true) × (b ≡ true)
    both_true true b h = (refl, h)
    both_true false b h = absurd (false≢true h)

near_each-is : (rows : List SetNear) (f : ℕ → Node → Option Near) → stand_once rows → (k : ℕ) (v : Node)
    → near_each rows f k v ≡ option_or (set_row_at rows k v) (f k v)
near_each-is [] f o k v = refl
near_each-is (r ∷ rows) f o k v =
    near_each-is rows (λ j w. cond ((r.key == j) && same_node r.row.node w) (Some r.row.near) (f j w)) o.1 k v
    ∙ cases ((r.key == k) && same_node r.row.node v) refl
  where
    cases : (b : Bool) → ((r.key == k) && same_node r.row.node v) ≡ b
        → option_or (set_row_at rows k v) (cond b (Some r.row.near) (f k v)) ≡ option_or (cond b (Some r.row.near) (set_row_at rows k v)) (f k v)
    cases true e = ap (λ (x : Option Near). option_or x (Some r.row.near)) (only_at r rows o.0 k v e)
    cases false e = refl

set_near_free : (rows : List SetNear) (c : Content) → stand_once rows → Each (λ r. r.key ≤ LARGEST_NUMBER) rows
    → ((k : ℕ) (v : Node) → (set_row_at rows k v ≡ None → ⊥) → c.near k v ≡ None) → AreFree (set_near_puts rows) c
set_near_free [] c o l h = tt
set_near_free (r ∷ rows) c o l h = (
  (l.0, h r.key r.row.node (λ z. none-some r.row.near (sym z ∙ here))),
  set_near_free rows _ o.1 l.1 (λ k v some. cases k v some ((r.key == k) && same_node r.row.node v) refl),
)
  where
    here : set_row_at (r ∷ rows) r.key r.row.node ≡ Some r.row.near
    here =
        ap (λ b. cond (b && same_node r.row.node r.row.node) (Some r.row.near) (set_row_at rows r.key r.row.node)) (eq-eqb r.key r.key refl)
        ∙ ap (λ b. cond b (Some r.row.near) (set_row_at rows r.key r.row.node)) (same_itself r.row.node)

    cases : (k : ℕ) (v : Node) → (set_row_at rows k v ≡ None → ⊥) → (b : Bool) → ((r.key == k) && same_node r.row.node v) ≡ b
        → cond b (Some r.row.near) (c.near k v) ≡ None
    cases k v some true e = absurd (some (only_at r rows o.0 k v e))
    cases k v some false e = h k v (λ z. some (sym (ap (λ b. cond b (Some r.row.near) (set_row_at rows k v)) e) ∙ z))

-- ---- a branch

module _ (c : Content) (t : Ancestry) (changed : List Node) (rows : List SetNear) where
  pub branch_played : ChangesNodes c t changed → AreMissing c t rows → IsForest c.nodes
      → edited_all (link_puts t changed ++ set_near_puts rows) c ≡ with_nodes t c
  branch_played changes missing old =
      edited_all-append (link_puts t changed) (set_near_puts rows) c
      ∙ ap (edited_all (set_near_puts rows)) (links_put t changed c)
      ∙ near_put rows (record c { nodes = linked_as t changed c.nodes })
      ∙ same_content _ _ (record {
        next = refl;
        key = λ n. refl;
        members = λ k. refl;
        fields = λ k. refl;
        found = λ k. refl;
        fixed = λ k. refl;
        blockers = λ k. refl;
        affects = λ k. refl;
        nodes = linked_is c t changed changes old;
        near = λ k v. near_each-is rows c.near missing.once k v
            ∙ ap (λ (o : Option Near). option_or o (c.near k v)) (missing.rows_are k v)
            ∙ cases k v (c.near k v) refl;
        messages = λ id. refl;
        outcomes = λ id. refl;
        outcome_numbers = λ id place. refl;
      })
    where
      alone : (o : Option Near) → option_or o None ≡ o
      alone None = refl
      alone (Some x) = refl

      cases : (k : ℕ) (v : Node) (o : Option Near) → c.near k v ≡ o
          → option_or (cond (is_some o) None (nearest_of t (c.found k) (c.fixed k) v)) o ≡ nearest_of t (c.found k) (c.fixed k) v
      cases k v None e = alone (nearest_of t (c.found k) (c.fixed k) v)
      cases k v (Some near) e = sym (missing.right k v near e)

  pub branch_free : AreMissing c t rows → AreFree (link_puts t changed ++ set_near_puts rows) c
  branch_free missing = free-append (link_puts t changed) (set_near_puts rows) c (links_free t changed c)
      (subst (λ (x : Content). AreFree (set_near_puts rows) x) (sym (links_put t changed c))
      (set_near_free rows _ missing.once missing.keys (λ k v some. new k v some (c.near k v) refl)))
    where
      new : (k : ℕ) (v : Node) → (set_row_at rows k v ≡ None → ⊥) → (o : Option Near) → c.near k v ≡ o → c.near k v ≡ None
      new k v some None e = e
      new k v some (Some near) e = absurd (some (missing.rows_are k v ∙ ap (λ (o : Option Near). cond (is_some o) None (nearest_of t (c.found k) (c.fixed k) v)) e))
