-- The rows of one more node, behind those of others.
use Rattle.std.proofs.Common.{◌≡◌, ◌≤◌, ℕ, Bool, true, false, cond, ◌||◌, ◌&&◌, ◌==◌, List, [], ◌∷◌, ◌++◌, Option, Some, None, is_some, Less, refl, sym, ap, ◌∙◌}
use Rattle.std.specs.List.{AllByRecursion}
use Rattle.std.specs.List.Sorted.{IsStrictlySortedBy}
use Rattle.std.specs.Map.{keys_of, lookup}
use Rattle.std.specs.Option.{option_or}
use Rattle.std.specs.Ordering.{is_eq, nat_cmp}
use Rattle.std.specs.BTreeMap.{is_at}
use Rattle.std.proofs.lemmas.Bool.{false≢true, eqb-true, eq-eqb}
use Rattle.std.proofs.lemmas.Map.Keys.{sorted_head, sorted_tail}
use Rattle.base_words.specs.declared.named.TheConstants.{LARGEST_NUMBER}
use Rattle.version_nodes.specs.Nodes.{Node, same_node}
use Rattle.version_nodes.specs.NodeLaws.{same_node_equiv}
use Rattle.version_nodes.specs.Trees.{Ancestry, has_node, knows, line}
use Rattle.version_nodes.proofs.NodeLemmas.{same_true, same_itself}
use Rattle.bug_record.specs.Sets.{Each}
use Rattle.base_sequences.proofs.OrderedLemmas.{eq_cmp}
use Rattle.version_marks.specs.Nearest.{nearest_on, nearest_of}
use Rattle.version_marks.specs.declared.near.Near.{Near}
use Rattle.table_content.specs.Content.{Content}
use Rattle.table_content.specs.Kept.{IsKeptContent}
use Rattle.table_content.specs.Branches.{set_row_at, stand_once}
use Rattle.table_content.specs.declared.branches.SetNear.{SetNear}
use Rattle.table_nodes.specs.Missing.{AreRowsOn, set_near, new_rows}
use Rattle.table_nodes.proofs.NodeListLemmas.{has_append}
use Rattle.table_nodes.proofs.FirstMarkLemmas.{small_key}

-- ---- one list of rows after another

set_append : (xs ys : List SetNear) (k : ℕ) (v : Node) → set_row_at (xs ++ ys) k v ≡ option_or (set_row_at xs k v) (set_row_at ys k v)
set_append [] ys k v = refl
set_append (x ∷ xs) ys k v =
    elim ((x.key == k) && same_node x.row.node v)
    as (λ b. cond b (Some x.row.near) (set_row_at (xs ++ ys) k v) ≡ option_or (cond b (Some x.row.near) (set_row_at xs k v)) (set_row_at ys k v))
    [ true ↦ refl | false ↦ set_append xs ys k v ]

each_append : {T : Type 0} (P : T → Type 0) (xs ys : List T) → Each P xs → Each P ys → Each P (xs ++ ys)
each_append P [] ys a b = b
each_append P (x ∷ xs) ys a b = (a.0, each_append P xs ys a.1 b)

once_append : (xs ys : List SetNear) → stand_once xs → stand_once ys
    → ((k : ℕ) (w : Node) → is_some (set_row_at xs k w) ≡ true → set_row_at ys k w ≡ None) → stand_once (xs ++ ys)
once_append [] ys o p apart = p
once_append (x ∷ xs) ys o p apart = (
  set_append xs ys x.key x.row.node ∙ ap (λ (a : Option Near). option_or a (set_row_at ys x.key x.row.node)) o.0
      ∙ apart x.key x.row.node (ap (λ b. is_some (cond b (Some x.row.near) (set_row_at xs x.key x.row.node))) own),
  once_append xs ys o.1 p (λ k w some. apart k w (more k w ((x.key == k) && same_node x.row.node w) some)),
)
  where
    own : ((x.key == x.key) && same_node x.row.node x.row.node) ≡ true
    own = ap (λ b. b && same_node x.row.node x.row.node) (eq-eqb x.key x.key refl) ∙ same_itself x.row.node

    more : (k : ℕ) (w : Node) (b : Bool) → is_some (set_row_at xs k w) ≡ true → is_some (cond b (Some x.row.near) (set_row_at xs k w)) ≡ true
    more k w true some = refl
    more k w false some = some

-- ---- entries of a map

abbrev at : ℕ → List (ℕ × Near) → Option Near
at k es = lookup (is_at (nat_cmp k)) es

at_more : (k : ℕ) (e : ℕ × Near) (es : List (ℕ × Near)) → at k (e ∷ es) ≡ cond (e.0 == k) (Some e.1) (at k es)
at_more k e es = ap (λ b. cond b (Some e.1) (at k es)) (eq_cmp k e.0)

at_above : (k : ℕ) (es : List (ℕ × Near)) → AllByRecursion (λ j. nat_cmp k j ≡ Less) (keys_of es) → at k es ≡ None
at_above k [] h = refl
at_above k (e ∷ es) h = ap (λ o. cond (is_eq o) (Some e.1) (at k es)) h.0 ∙ at_above k es h.1

each_key : (P : ℕ → Type 0) (es : List (ℕ × Near)) → ((k : ℕ) → is_some (at k es) ≡ true → P k) → Each (λ e. P e.0) es
each_key P [] all = tt
each_key P (e ∷ es) all = (
  all e.0 (ap is_some (at_more e.0 e es ∙ ap (λ b. cond b (Some e.1) (at e.0 es)) (eq-eqb e.0 e.0 refl))),
  each_key P es (λ k some. all k (ap is_some (at_more k e es) ∙ later k (e.0 == k) some)),
)
  where
    later : (k : ℕ) (b : Bool) → is_some (at k es) ≡ true → is_some (cond b (Some e.1) (at k es)) ≡ true
    later k true some = refl
    later k false some = some

-- ---- the new rows of one node

module _ (c : Content) (v : Node) where
  abbrev seen : ℕ → Bool
  seen k = is_some (c.near k v)

  row_is : (es : List (ℕ × Near)) (k : ℕ) (w : Node)
      → set_row_at (new_rows c v es) k w ≡ cond (same_node v w) (cond (seen k) None (at k es)) None
  row_is [] k w = both (same_node v w) (seen k)
    where
      both : (s b : Bool) → ◌≡◌ {A = Option Near} None (cond s (cond b None None) None)
      both true true = refl
      both true false = refl
      both false b = refl
  row_is (e ∷ es) k w =
      first (row_is es k w) (seen e.0) refl (e.0 == k) refl
      ∙ sym (ap (λ (o : Option Near). cond (same_node v w) (cond (seen k) None o) None) (at_more k e es))
    where
      -- where the set has a row already
      gone : seen k ≡ true → (x : Option Near) → cond (same_node v w) (cond (seen k) None (at k es)) None ≡ cond (same_node v w) (cond (seen k) None x) None
      gone h x =
          ap (λ b. cond (same_node v w) (cond b None (at k es)) None) h ∙ sym (ap (λ b. cond (same_node v w) (cond b None x) None) h)

      -- and where it hasn't
      new : set_row_at (new_rows c v es) k w ≡ cond (same_node v w) (cond (seen k) None (at k es)) None → seen k ≡ false → (s : Bool) → same_node v w ≡ s
          → cond s (Some e.1) (set_row_at (new_rows c v es) k w) ≡ cond s (cond (seen k) None (Some e.1)) None
      new again h true f = sym (ap (λ b. cond b None (Some e.1)) h)
      new again h false f = again ∙ ap (λ s. cond s (cond (seen k) None (at k es)) None) f

      first : set_row_at (new_rows c v es) k w ≡ cond (same_node v w) (cond (seen k) None (at k es)) None
          → (b : Bool) → seen e.0 ≡ b → (q : Bool) → (e.0 == k) ≡ q
          → set_row_at (cond b (new_rows c v es) (set_near e.0 v e.1 ∷ new_rows c v es)) k w
          ≡ cond (same_node v w) (cond (seen k) None (cond q (Some e.1) (at k es))) None
      first again true f false g = again
      first again false f false g =
          ap (λ q. cond (q && same_node v w) (Some e.1) (set_row_at (new_rows c v es) k w)) g ∙ again
      first again true f true g = again ∙ gone (ap seen (sym (eqb-true e.0 k g)) ∙ f) (Some e.1)
      first again false f true g =
          ap (λ q. cond (q && same_node v w) (Some e.1) (set_row_at (new_rows c v es) k w)) g
          ∙ new again (ap seen (sym (eqb-true e.0 k g)) ∙ f) (same_node v w) refl

  once_new : (es : List (ℕ × Near)) → IsStrictlySortedBy nat_cmp (keys_of es) → stand_once (new_rows c v es)
  once_new [] h = tt
  once_new (e ∷ es) h = first (once_new es (sorted_tail nat_cmp e.0 (keys_of es) h)) (seen e.0) refl
    where
      lacks : seen e.0 ≡ false → set_row_at (new_rows c v es) e.0 v ≡ None
      lacks f =
          row_is es e.0 v ∙ ap (λ s. cond s (cond (seen e.0) None (at e.0 es)) None) (same_itself v)
          ∙ ap (λ b. cond b None (at e.0 es)) f ∙ at_above e.0 es (sorted_head nat_cmp e.0 (keys_of es) h)

      first : stand_once (new_rows c v es) → (b : Bool) → seen e.0 ≡ b
          → stand_once (cond b (new_rows c v es) (set_near e.0 v e.1 ∷ new_rows c v es))
      first again true f = again
      first again false f = (lacks f, again)

  keys_new : (P : ℕ → Type 0) (es : List (ℕ × Near)) → Each (λ e. P e.0) es → Each (λ r. P r.key) (new_rows c v es)
  keys_new P [] all = tt
  keys_new P (e ∷ es) all = first (keys_new P es all.1) (seen e.0)
    where
      first : Each (λ r. P r.key) (new_rows c v es) → (b : Bool) → Each (λ r. P r.key) (cond b (new_rows c v es) (set_near e.0 v e.1 ∷ new_rows c v es))
      first again true = again
      first again false = (all.0, again)

-- ---- one more node

module _ (c : Content) (u : Ancestry) (nodes : List Node) (rows : List SetNear) (v : Node) (es : List (ℕ × Near)) (kept : IsKeptContent c)
    (known : knows u v ≡ true) (new : has_node nodes v ≡ false) (sorted : IsStrictlySortedBy nat_cmp (keys_of es))
    (are : (k : ℕ) → lookup (is_at (nat_cmp k)) es ≡ nearest_on (c.found k) (c.fixed k) (line u v)) (on : AreRowsOn c u nodes rows) where
  -- none of the nodes is v
  other : (w : Node) → has_node nodes w ≡ true → same_node v w ≡ false
  other w h = cases (same_node v w) refl
    where
      cases : (s : Bool) → same_node v w ≡ s → s ≡ false
      cases false e = refl
      cases true e = absurd (false≢true (sym new ∙ ap (has_node nodes) (same_true v w e) ∙ h))

  abbrev due : ℕ → Node → Option Near
  due k w = cond (is_some (c.near k w)) None (nearest_of u (c.found k) (c.fixed k) w)

  here : (k : ℕ) (w : Node) → set_row_at (rows ++ new_rows c v es) k w ≡ cond (has_node (nodes ++ v ∷ []) w) (due k w) None
  here k w =
      set_append rows (new_rows c v es) k w
      ∙ ap (λ (o : Option Near). option_or o (set_row_at (new_rows c v es) k w)) (on.here k w)
      ∙ ap (option_or (cond (has_node nodes w) (due k w) None)) (row_is c v es k w)
      ∙ cases (has_node nodes w) refl (same_node v w) refl
      ∙ sym (ap (λ b. cond b (due k w) None) (has_append nodes (v ∷ []) w ∙ ap (λ s. has_node nodes w || (s || false)) (same_node_equiv.symm w v)))
    where
      alone : (o : Option Near) → option_or o None ≡ o
      alone None = refl
      alone (Some x) = refl

      cases : (a : Bool) → has_node nodes w ≡ a → (s : Bool) → same_node v w ≡ s
          → option_or (cond a (due k w) None) (cond s (cond (is_some (c.near k v)) None (at k es)) None) ≡ cond (a || (s || false)) (due k w) None
      cases true e true f = absurd (false≢true (sym (other w e) ∙ f))
      cases true e false f = alone (due k w)
      cases false e true f =
          ap (λ (o : Option Near). cond (is_some (c.near k v)) None o)
          (are k ∙ sym (ap (λ b. cond b (nearest_on (c.found k) (c.fixed k) (line u v)) None) known))
          ∙ ap (due k) (same_true v w f)
      cases false e false f = refl

  small : (k : ℕ) → is_some (at k es) ≡ true → k ≤ LARGEST_NUMBER
  small k some = cases (at k es) refl some
    where
      cases : (o : Option Near) → at k es ≡ o → is_some o ≡ true → k ≤ LARGEST_NUMBER
      cases None e h = absurd (false≢true h)
      cases (Some near) e h = small_key c k (line u v) near kept (sym (are k) ∙ e)

  pub rows_more : AreRowsOn c u (nodes ++ v ∷ []) (rows ++ new_rows c v es)
  rows_more = record {
    once = once_append rows (new_rows c v es) on.once (once_new c v es sorted) (λ k w some.
        row_is c v es k w ∙ ap (λ s. cond s (cond (is_some (c.near k v)) None (at k es)) None) (other w (is_here k w (has_node nodes w) refl some)));
    keys = each_append (λ r. r.key ≤ LARGEST_NUMBER) rows (new_rows c v es) on.keys
        (keys_new c v (λ k. k ≤ LARGEST_NUMBER) es (each_key (λ k. k ≤ LARGEST_NUMBER) es small));
    here = here;
  }
    where
      is_here : (k : ℕ) (w : Node) (b : Bool) → has_node nodes w ≡ b → is_some (set_row_at rows k w) ≡ true → has_node nodes w ≡ true
      is_here k w true e some = e
      is_here k w false e some =
          absurd (false≢true (sym (ap is_some (on.here k w ∙ ap (λ b. cond b (due k w) None) e)) ∙ some))
