-- The edits of an image are free.
use Rattle.std.proofs.Common.{◌≡◌, ◌<◌, ◌≤◌, ℕ, Bool, true, false, cond, ◌||◌, ◌&&◌, List, [], ◌∷◌, ◌++◌, Option, Some, None, sym, refl, ap, ◌∙◌, subst, arith}
use Rattle.std.specs.Prelude.{nat_lt, ◌==◌, ◌≢◌}
use Rattle.std.specs.Ordering.{is_eq}
use Rattle.std.specs.declared.cmp.Ordering.TheVariants.{Less}
use Rattle.std.specs.List.{AllByRecursion}
use Rattle.std.proofs.lemmas.Option.{none-some}
use Rattle.std.specs.List.Sorted.{IsStrictlySortedBy}
use Rattle.std.proofs.lemmas.Bool.{false≢true, eq-eqb}
use Rattle.std.proofs.lemmas.Bool.Decides.{nat_tests}
use Rattle.base_words.specs.declared.named.TheConstants.{LARGEST_NUMBER}
use Rattle.version_nodes.specs.Nodes.{Node, same_node, node_cmp}
use Rattle.version_nodes.specs.Trees.{has_node}
use Rattle.version_nodes.specs.declared.statuses.MarkKind.{MarkKind}
use Rattle.version_nodes.specs.declared.statuses.MarkKind.TheVariants.{Found, Fixed}
use Rattle.version_nodes.proofs.NodeLemmas.{same_true, same_itself, ties_same}
use Rattle.bug_record.specs.Sets.{has, IsAscending}
use Rattle.bug_record.specs.Images.{numbers_of}
use Rattle.bug_record.specs.declared.bug.Member.{Member}
use Rattle.bug_record.specs.declared.bug.SetImage.{SetImage}
use Rattle.std.specs.Cmp.Lexicographic.{bytes_decides, texts_ties}
use Rattle.std.specs.Str.{bytes_eq}
use Rattle.bug_record.specs.PackageSets.{name_cmp, has_name, with_name}
use Rattle.bug_record.proofs.PackageLemmas.{same_name, has-with_name}
use Rattle.bug_record.specs.Marks.{with_node}
use Rattle.bug_record.proofs.MarkLemmas.{has-with_node}
use Rattle.base_sequences.proofs.SetLemmas.{has-above}
use Rattle.store_keys.specs.Keys.{key_of}
use Rattle.version_marks.specs.Nearest.{row_at, once}
use Rattle.version_marks.specs.declared.near.Near.{Near}
use Rattle.version_marks.specs.declared.near.NearRow.{NearRow}
use Rattle.table_content.specs.Content.{Content}
use Rattle.table_content.specs.Edits.{put_at, placed, kept_fields, edited, edited_all}
use Rattle.table_content.specs.Free.{AreFree, marks_of}
use Rattle.table_content.specs.declared.edit.Edit.{Edit}
use Rattle.table_content.specs.declared.edit.Edit.TheVariants.{PutMark, PutFields}
use Rattle.table_content.specs.EditLists.{mark_drops, drops_of, drops, member_puts, blocker_puts, affected_puts, mark_puts, near_puts, set_puts, all_mark_puts}
use Rattle.table_content.specs.Images.{IsGoodImage, IsCleared}
use Rattle.table_content.specs.View.{fields_of}
use Rattle.table_content.proofs.PlaceLemmas.{at_itself, put_each}
use Rattle.table_content.proofs.ClosedLemmas.{own_key}
use Rattle.table_content.proofs.PutLemmas.{put_keys, members_put, blockers_put, set_put, after_set, found_put, fixed_put}

pub free-append : (xs ys : List Edit) (c : Content) → AreFree xs c → AreFree ys (edited_all xs c) → AreFree (xs ++ ys) c
free-append [] ys c a b = b
free-append (e ∷ xs) ys c a b = (a.0, free-append xs ys (edited e c) a.1 b)

-- ---- what goes

drop_free : (keeps : Bool) (key n : ℕ) (c : Content) → n ≤ LARGEST_NUMBER → AreFree (drops_of keeps key n) c
drop_free keeps key n c l = (l, (l, (l, (l, marks (keeps && (key == n)) _))))
  where
    marks : (t : Bool) (d : Content) → AreFree (cond t [] (mark_drops false key n)) d
    marks true d = tt
    marks false d = (l, (l, tt))

pub drops_free : (keeps : Bool) (key : ℕ) (ms : List Member) (c : Content)
    → ((n : ℕ) → has (numbers_of ms) n ≡ true → n ≤ LARGEST_NUMBER) → AreFree (drops keeps key ms) c
drops_free keeps key [] c h = tt
drops_free keeps key (m ∷ ms) c h =
    free-append (drops_of keeps key m.number) (drops keeps key ms) c
    (drop_free keeps key m.number c (h m.number (ap (λ t. t || has (numbers_of ms) m.number) (eq-eqb m.number m.number refl))))
    (drops_free keeps key ms (edited_all (drops_of keeps key m.number) c) (λ n e. h n (later (m.number == n) (has (numbers_of ms) n) e)))
  where
    later : (a b : Bool) → b ≡ true → (a || b) ≡ true
    later true b e = refl
    later false b e = e

-- ---- what comes

pub apart : (a b : ℕ) → a < b → (a == b) ≡ false
apart a b l = grind (arith, nat_tests)

pub here : (xs : List ℕ) (n : ℕ) → has (n ∷ xs) n ≡ true
here xs n = ap (λ t. t || has xs n) (eq-eqb n n refl)

pub there : (a b : Bool) → b ≡ true → (a || b) ≡ true
there true b e = refl
there false b e = e

pub members_free : (k : ℕ) (ms : List Member) (c : Content) → k ≤ LARGEST_NUMBER
    → ((n : ℕ) → has (numbers_of ms) n ≡ true → n ≤ LARGEST_NUMBER) → IsAscending (numbers_of ms)
    → ((n : ℕ) → has (numbers_of ms) n ≡ true → c.key n ≡ None) → AreFree (member_puts k ms) c
members_free k [] c l b a h = tt
members_free k (m ∷ ms) c l b a h = (
  (l, b m.number (here (numbers_of ms) m.number), h m.number (here (numbers_of ms) m.number)),
  members_free k ms _ l (λ n e. b n (there (m.number == n) (has (numbers_of ms) n) e)) a.1 (λ n e.
      ap (λ t. cond t (Some k) (c.key n)) (apart m.number n (has-above (numbers_of ms) m.number n a.0 e))
      ∙ h n (there (m.number == n) (has (numbers_of ms) n) e)),
)

pub has-placed : (xs : List ℕ) (x n : ℕ) → has (placed (λ z. z) xs x) n ≡ ((x == n) || has xs n)
has-placed [] x n = refl
has-placed (y ∷ ys) x n =
    elim (nat_lt x y) as (λ t. has (cond t (x ∷ y ∷ ys) (y ∷ placed (λ z. z) ys x)) n ≡ ((x == n) || ((y == n) || has ys n))) [
      | true ↦ refl
      | false ↦ ap (λ t. (y == n) || t) (has-placed ys x n) ∙ turn (y == n) (x == n) (has ys n)
    ]
  where
    turn : (a b c : Bool) → (a || (b || c)) ≡ (b || (a || c))
    turn true true c = refl
    turn true false c = refl
    turn false true c = refl
    turn false false c = refl

pub blockers_free : (k : ℕ) (bs : List ℕ) (c : Content) → k ≤ LARGEST_NUMBER
    → ((n : ℕ) → has bs n ≡ true → n ≤ LARGEST_NUMBER) → IsAscending bs
    → ((n : ℕ) → has bs n ≡ true → has (c.blockers k) n ≡ false) → AreFree (blocker_puts k bs) c
blockers_free k [] c l b a h = tt
blockers_free k (x ∷ bs) c l b a h = (
  (l, b x (here bs x), h x (here bs x)),
  blockers_free k bs _ l (λ n e. b n (there (x == n) (has bs n) e)) a.1 (λ n e.
      ap (λ (ys : List ℕ). has ys n) (at_itself k (placed (λ z. z) (c.blockers k) x) c.blockers)
      ∙ has-placed (c.blockers k) x n
      ∙ ap (λ t. t || has (c.blockers k) n) (apart x n (has-above bs x n a.0 e))
      ∙ h n (there (x == n) (has bs n) e)),
)

-- affected packages, of which none is there
not_below : (n : List ℕ) (ns : List (List ℕ)) → AllByRecursion (λ m. name_cmp n m ≡ Less) ns → has_name ns n ≡ false
not_below n [] h = refl
not_below n (x ∷ ns) h =
    elim (bytes_eq n x) as (λ t. bytes_eq n x ≡ t → (t || has_name ns n) ≡ false)
    [ true ↦ λ e. absurd (false≢true (ap is_eq (sym h.0) ∙ sym (texts_ties n x) ∙ e)) | false ↦ λ e. not_below n ns h.1 ] refl

first_not_below : (n : List ℕ) (ns : List (List ℕ)) → IsStrictlySortedBy name_cmp (n ∷ ns) → has_name ns n ≡ false
unfolding IsStrictlySortedBy
first_not_below n ns s = not_below n ns s.0

name_apart : (n : List ℕ) (ns : List (List ℕ)) → IsStrictlySortedBy name_cmp (n ∷ ns) → (m : List ℕ) → has_name ns m ≡ true
    → bytes_eq m n ≡ false
name_apart n ns s m h = cases (bytes_eq m n) refl
  where
    cases : (t : Bool) → bytes_eq m n ≡ t → bytes_eq m n ≡ false
    cases true e = absurd (false≢true (sym (first_not_below n ns s) ∙ subst (λ (z : List ℕ). has_name ns z ≡ true) (same_name m n e) h))
    cases false e = e

names_rest : (n : List ℕ) (ns : List (List ℕ)) → IsStrictlySortedBy name_cmp (n ∷ ns) → IsStrictlySortedBy name_cmp ns
unfolding IsStrictlySortedBy
names_rest n ns s = s.1

none_of : (a b : Bool) → a ≡ false → b ≡ false → (a || b) ≡ false
none_of true b e q = absurd (false≢true (sym e))
none_of false b e q = q

pub affected_free : (k : ℕ) (ns : List (List ℕ)) (c : Content) → k ≤ LARGEST_NUMBER → IsStrictlySortedBy name_cmp ns
    → ((m : List ℕ) → has_name ns m ≡ true → has_name (c.affects k) m ≡ false) → AreFree (affected_puts k ns) c
affected_free k [] c l s h = tt
affected_free k (n ∷ ns) c l s h = (
  (l, h n (ap (λ t. t || has_name ns n) ((bytes_decides n n).1 refl))),
  affected_free k ns _ l (names_rest n ns s) (λ m e.
      ap (λ (ys : List (List ℕ)). has_name ys m) (at_itself k (with_name (c.affects k) n) c.affects)
      ∙ has-with_name (c.affects k) n m
      ∙ none_of (has_name (c.affects k) m) (bytes_eq m n) (h m (there (bytes_eq m n) (has_name ns m) e)) (name_apart n ns s m e)),
)

-- a node that stands before all of a list is not in it
not_later : (v : Node) (vs : List Node) → AllByRecursion (λ m. node_cmp v m ≡ Less) vs → has_node vs v ≡ false
not_later v [] h = refl
not_later v (x ∷ vs) h =
    elim (same_node v x) as (λ t. same_node v x ≡ t → (t || has_node vs v) ≡ false)
    [ true ↦ λ e. absurd (false≢true (ap is_eq (sym h.0) ∙ ties_same v x ∙ e)) | false ↦ λ e. not_later v vs h.1 ] refl

first_not_later : (v : Node) (vs : List Node) → IsStrictlySortedBy node_cmp (v ∷ vs) → has_node vs v ≡ false
unfolding IsStrictlySortedBy
first_not_later v vs s = not_later v vs s.0

first_apart : (v : Node) (vs : List Node) → IsStrictlySortedBy node_cmp (v ∷ vs) → (w : Node) → has_node vs w ≡ true → same_node w v ≡ false
first_apart v vs s w h = cases (same_node w v) refl
  where
    cases : (t : Bool) → same_node w v ≡ t → same_node w v ≡ false
    cases true e = absurd (false≢true (sym (first_not_later v vs s) ∙ subst (λ (z : Node). has_node vs z ≡ true) (same_true w v e) h))
    cases false e = e

sorted_rest : (v : Node) (vs : List Node) → IsStrictlySortedBy node_cmp (v ∷ vs) → IsStrictlySortedBy node_cmp vs
unfolding IsStrictlySortedBy
sorted_rest v vs s = s.1

-- marks of a kind, where this is the list of them at k
module _ (k : ℕ) (kind : MarkKind) (l : k ≤ LARGEST_NUMBER) where
  pub marks_free : (vs : List Node) (c : Content) → IsStrictlySortedBy node_cmp vs
      → ((w : Node) → has_node vs w ≡ true → has_node (marks_of kind c k) w ≡ false) → AreFree (mark_puts k kind vs) c
  marks_free [] c s h = tt
  marks_free (v ∷ vs) c s h = (
    (l, h v (ap (λ t. t || has_node vs v) (same_itself v))),
    marks_free vs (edited (PutMark k kind v) c) (sorted_rest v vs s) (λ w e.
        ap (λ (ys : List Node). has_node ys w) (marked kind)
        ∙ has-with_node (marks_of kind c k) v w
        ∙ none_of (has_node (marks_of kind c k) w) (same_node w v) (h w (there (same_node w v) (has_node vs w) e)) (first_apart v vs s w e)),
  )
    where
      marked : (kind : MarkKind) → marks_of kind (edited (PutMark k kind v) c) k ≡ with_node (marks_of kind c k) v
      marked Found = at_itself k (with_node (c.found k) v) c.found
      marked Fixed = at_itself k (with_node (c.fixed k) v) c.fixed

near_free : (k : ℕ) (rows : List NearRow) (c : Content) → k ≤ LARGEST_NUMBER → once rows
    → ((v : Node) → row_at rows v ≢ None → c.near k v ≡ None) → AreFree (near_puts k rows) c
near_free k [] c l o h = tt
near_free k (r ∷ rows) c l o h = (
  (l, h r.node (λ z. none-some r.near (sym z ∙ ap (λ t. cond t (Some r.near) (row_at rows r.node)) (same_itself r.node)))),
  near_free k rows _ l o.1 (λ v some. elim (same_node r.node v) as (λ t. same_node r.node v ≡ t → cond ((k == k) && t) (Some r.near) (c.near k v) ≡ None) [
    | true ↦ λ e. absurd (some (sym (ap (row_at rows) (same_true r.node v e)) ∙ o.0))
    | false ↦ λ e. none (k == k) (Some r.near) (c.near k v) ∙ h v (λ z. some (sym (ap (λ t. cond t (Some r.near) (row_at rows v)) e) ∙ z))
  ] refl),
)
  where
    none : (a : Bool) (x y : Option Near) → cond (a && false) x y ≡ y
    none true x y = refl
    none false x y = refl

-- ---- an image

pub set_free : (i : SetImage) (good : IsGoodImage i) (same : Bool) (c : Content) → IsCleared same i c → AreFree (set_puts i) c
set_free i good same c clear =
    let k = key_of i in
    let l : k ≤ LARGEST_NUMBER = good.numbers k (own_key i good.some) in
    let d : Content = record c {
      key = put_keys k i.members c.key;
      members = put_each (placed (λ (m : Member). m.number)) k i.members c.members;
    } in
    let e : Content = record d { fields = put_at k (Some (kept_fields (fields_of i.shared))) d.fields } in
    free-append (member_puts k i.members) _ c (members_free k i.members c l good.numbers good.members clear.keys)
    (subst (λ (x : Content). AreFree (PutFields k (fields_of i.shared)
    ∷ (blocker_puts k i.shared.blockers ++ affected_puts k i.shared.affects)) x) (sym (members_put k i.members c)) (
      (l, clear.fields),
      free-append (blocker_puts k i.shared.blockers) (affected_puts k i.shared.affects) e
          (blockers_free k i.shared.blockers e l good.blocker_numbers good.blockers
          (λ n q. ap (λ (bs : List ℕ). has bs n) clear.blockers))
          (subst (λ (x : Content). AreFree (affected_puts k i.shared.affects) x) (sym (blockers_put k i.shared.blockers e))
          (affected_free k i.shared.affects _ l good.affects.ascending (λ m q. ap (λ (ns : List (List ℕ)). has_name ns m) clear.affects))),
    ))

pub all_marks_free : (i : SetImage) (good : IsGoodImage i) (c : Content) → IsCleared false i c → (rows : List NearRow) → once rows
    → AreFree (all_mark_puts i rows) (edited_all (set_puts i) c)
all_marks_free i good c clear rows o =
    let k = key_of i in
    let l : k ≤ LARGEST_NUMBER = good.numbers k (own_key i good.some) in
    let a : Content = after_set i c in
    let b : Content = record a { found = put_each with_node k i.shared.found a.found } in
    subst (λ (x : Content). AreFree (all_mark_puts i rows) x) (sym (set_put i c))
    (free-append (mark_puts k Found i.shared.found) _ a
    (marks_free k Found l i.shared.found a good.found.ascending (λ w e. ap (λ (vs : List Node). has_node vs w) clear.marks.found))
    (subst (λ (x : Content). AreFree (mark_puts k Fixed i.shared.fixed ++ near_puts k rows) x) (sym (found_put k i.shared.found a))
    (free-append (mark_puts k Fixed i.shared.fixed) (near_puts k rows) b
    (marks_free k Fixed l i.shared.fixed b good.fixed.ascending (λ w e. ap (λ (vs : List Node). has_node vs w) clear.marks.fixed))
    (subst (λ (x : Content). AreFree (near_puts k rows) x) (sym (fixed_put k i.shared.fixed b))
    (near_free k rows _ l o (λ v some. clear.marks.near v))))))
