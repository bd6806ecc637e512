-- What the edits of an image whose bugs stay make of a content.
use Rattle.std.proofs.Common.{◌≡◌, ◌≤◌, ℕ, Bool, true, false, cond, ◌&&◌, List, [], ◌∷◌, ◌++◌, Option, Some, None, sym, refl, ap, ◌∙◌, subst}
use Rattle.std.proofs.Common.{append-nil, append_assoc}
use Rattle.std.specs.Prelude.{not, ◌==◌}
use Rattle.std.proofs.lemmas.Bool.{eqb-true, eq-eqb}
use Rattle.base_words.specs.declared.named.TheConstants.{LARGEST_NUMBER}
use Rattle.version_nodes.specs.Nodes.{Node}
use Rattle.version_nodes.specs.Trees.{Ancestry}
use Rattle.bug_record.specs.declared.bug.SetImage.{SetImage}
use Rattle.store_keys.specs.Keys.{key_of}
use Rattle.version_marks.specs.Nearest.{nearest_of, row_at, once}
use Rattle.version_marks.specs.declared.near.Near.{Near}
use Rattle.version_marks.specs.declared.near.NearRow.{NearRow}
use Rattle.table_content.specs.Content.{Content}
use Rattle.table_content.specs.Edits.{put_at, edited, edited_all}
use Rattle.table_content.specs.EditLists.{mark_drops, key_drops, member_puts, shared_puts, set_puts, all_mark_puts}
use Rattle.table_content.specs.Free.{AreFree}
use Rattle.table_content.specs.Images.{is_member, loses_marks, same_marks, without_image, with_image, IsGoodImage, IsCleared}
use Rattle.table_content.specs.Staying.{Stays}
use Rattle.table_content.specs.declared.edit.Edit.{Edit}
use Rattle.table_content.proofs.ClosedLemmas.{own_key}
use Rattle.table_content.proofs.EditLemmas.{same_content, edited_all-append}
use Rattle.table_content.proofs.FreeLemmas.{free-append, set_free, all_marks_free}
use Rattle.table_content.proofs.PutLemmas.{put_keys-is, members_put, numbers_put, put_kept, put_new}

free-later : (xs ys : List Edit) (c : Content) → AreFree (xs ++ ys) c → AreFree ys (edited_all xs c)
free-later [] ys c free = free
free-later (e ∷ xs) ys c free = free-later xs ys (edited e c) free.1

and_true : (a b : Bool) → b ≡ true → (a && b) ≡ a
and_true true b e = e
and_true false b e = refl

-- the content without what stands under a key, but its bugs
abbrev left : Bool → ℕ → Content → Content
left keeps k c = record c {
  fields = put_at k None c.fields;
  blockers = put_at k [] c.blockers;
  affects = put_at k [] c.affects;
  found = λ j. cond keeps (c.found j) (put_at k [] c.found j);
  fixed = λ j. cond keeps (c.fixed j) (put_at k [] c.fixed j);
  near = λ j. cond keeps (c.near j) (put_at k (λ v. None) c.near j);
}

dropped : (keeps : Bool) (k : ℕ) (c : Content) → edited_all (key_drops keeps k) c ≡ left keeps k c
dropped keeps k c =
    elim (keeps && (k == k)) as (λ t.
    let d : Content = record c { fields = put_at k None c.fields; blockers = put_at k [] c.blockers; affects = put_at k [] c.affects } in
    edited_all (cond t [] (mark_drops false k k)) d
    ≡ record d {
      found = λ j. cond t (c.found j) (put_at k [] c.found j);
      fixed = λ j. cond t (c.fixed j) (put_at k [] c.fixed j);
      near = λ j. cond t (c.near j) (put_at k (λ v. None) c.near j);
    }) [ true ↦ refl | false ↦ refl ]
    ∙ ap (λ t. left t k c) (and_true keeps (k == k) (eq-eqb k k refl))

drops_are_free : (keeps : Bool) (k : ℕ) (c : Content) → k ≤ LARGEST_NUMBER → AreFree (key_drops keeps k) c
drops_are_free keeps k c l = (l, (l, (l, marks (keeps && (k == k)) _)))
  where
    marks : (t : Bool) (d : Content) → AreFree (cond t [] (mark_drops false k k)) d
    marks true d = tt
    marks false d = (l, (l, tt))

module _ (i : SetImage) (good : IsGoodImage i) (c : Content) (stays : Stays i c) (keeps : Bool) (clear : IsCleared keeps i (without_image keeps i c)) where
  abbrev k : ℕ
  k = key_of i

  abbrev gone : Content
  gone = without_image keeps i c

  own : is_member i k ≡ true
  own = own_key i good.some

  own_at : (j : ℕ) → (k == j) ≡ true → is_member i j ≡ true
  own_at j e = ap (is_member i) (sym (eqb-true k j e)) ∙ own

  -- under the other numbers there was nothing
  one_gone : {A : Type 0} (x : A) (f : ℕ → A) → ((j : ℕ) → is_member i j ≡ true → (k == j) ≡ false → f j ≡ x) → (j : ℕ)
      → cond (is_member i j) x (f j) ≡ put_at k x f j
  one_gone x f h j =
      elim (k == j) as (λ t. (k == j) ≡ t → cond (is_member i j) x (f j) ≡ cond t x (f j)) [
        | true ↦ λ e. ap (λ t. cond t x (f j)) (own_at j e)
        | false ↦ λ e. elim (is_member i j) as (λ t. is_member i j ≡ t → cond t x (f j) ≡ f j) [ true ↦ λ m. sym (h j m e) | false ↦ λ m. refl ] refl
      ] refl

  marks_gone : {A : Type 0} (x : A) (f : ℕ → A) → ((j : ℕ) → is_member i j ≡ true → (k == j) ≡ false → f j ≡ x) → (j : ℕ)
      → cond (loses_marks keeps i j) x (f j) ≡ cond keeps (f j) (put_at k x f j)
  marks_gone x f h j = cases keeps
    where
      cases : (t : Bool) → cond (is_member i j && not (t && (k == j))) x (f j) ≡ cond t (f j) (put_at k x f j)
      cases true =
          elim (k == j) as (λ t. (k == j) ≡ t → cond (is_member i j && not t) x (f j) ≡ f j) [
            | true ↦ λ e. elim (is_member i j) as (λ m. cond (m && false) x (f j) ≡ f j) [ true ↦ refl | false ↦ refl ]
            | false ↦ λ e. elim (is_member i j) as (λ m. is_member i j ≡ m → cond (m && true) x (f j) ≡ f j) [ true ↦ λ m. sym (h j m e) | false ↦ λ m. refl ] refl
          ] refl
      cases false = ap (λ t. cond t x (f j)) (and_true (is_member i j) true refl) ∙ one_gone x f h j

  -- the bugs that went come again: that is the content without what stands under the key
  back : edited_all (member_puts k i.members) gone ≡ left keeps k c
  back = members_put k i.members gone ∙ same_content _ _ (record {
    next = refl;
    key = λ n. put_keys-is k i.members gone.key n ∙ elim (is_member i n) as (λ t. is_member i n ≡ t → cond t (Some k) (cond t None (c.key n)) ≡ c.key n)
        [ true ↦ λ m. sym (stays.keys n m) | false ↦ λ m. refl ] refl;
    members = λ j. numbers_put i good gone clear.members j ∙ elim (k == j) as (λ t. (k == j) ≡ t → cond t i.members (gone.members j) ≡ c.members j)
        [ true ↦ λ e. sym stays.members ∙ ap c.members (eqb-true k j e) | false ↦ λ e. stays.elsewhere j e ] refl;
    fields = one_gone None c.fields (λ j m e. (stays.others j m e).fields);
    found = marks_gone [] c.found (λ j m e. (stays.others j m e).found);
    fixed = marks_gone [] c.fixed (λ j m e. (stays.others j m e).fixed);
    blockers = one_gone [] c.blockers (λ j m e. (stays.others j m e).blockers);
    affects = one_gone [] c.affects (λ j m e. (stays.others j m e).affects);
    nodes = refl;
    near = λ j v. ap (λ (f : Node → Option Near). f v)
        (marks_gone (λ v. None) c.near (λ j m e. λ p. λ v. (stays.others j m e).near v p) j);
    messages = λ id. refl;
    outcomes = λ id. refl;
    outcome_numbers = λ id place. refl;
  })

  -- what follows the bugs
  later : (rest : List Edit) → edited_all (key_drops keeps k ++ (shared_puts i ++ rest)) c ≡ edited_all (set_puts i ++ rest) gone
  later rest =
      edited_all-append (key_drops keeps k) (shared_puts i ++ rest) c
      ∙ ap (edited_all (shared_puts i ++ rest)) (dropped keeps k c ∙ sym back)
      ∙ sym (edited_all-append (member_puts k i.members) (shared_puts i ++ rest) gone)
      ∙ ap (λ (es : List Edit). edited_all es gone) (sym (append_assoc (member_puts k i.members) (shared_puts i) rest))

  later_free : (rest : List Edit) → AreFree (set_puts i ++ rest) gone → AreFree (key_drops keeps k ++ (shared_puts i ++ rest)) c
  later_free rest free =
      free-append (key_drops keeps k) (shared_puts i ++ rest) c (drops_are_free keeps k c (good.numbers k own))
      (subst (λ (x : Content). AreFree (shared_puts i ++ rest) x) (back ∙ sym (dropped keeps k c))
      (free-later (member_puts k i.members) (shared_puts i ++ rest) gone
      (subst (λ (es : List Edit). AreFree es gone) (append_assoc (member_puts k i.members) (shared_puts i) rest) free)))

-- ---- the edits, as `stay_edits` has them

module _ (i : SetImage) (found fixed : List Node) (key : ℕ) (keeps : Bool) (is_key : key ≡ key_of i)
    (is_kept : keeps ≡ same_marks i found fixed) where
  abbrev same : Bool
  same = same_marks i found fixed

  drops_are : (first edits : List Edit) → first ≡ key_drops keeps key → edits ≡ first ++ shared_puts i
      → edits ≡ key_drops same (key_of i) ++ shared_puts i
  drops_are first edits f e =
      e
      ∙ ap (λ (es : List Edit). es ++ shared_puts i) f
      ∙ ap (λ (k : ℕ). key_drops keeps k ++ shared_puts i) is_key
      ∙ ap (λ (t : Bool). key_drops t (key_of i) ++ shared_puts i) is_kept

  module _ (first edits : List Edit) (f : first ≡ key_drops keeps key) (e : edits ≡ first ++ shared_puts i)
      (c : Content) (good : IsGoodImage i) (stays : Stays i c) (clear : IsCleared same i (without_image same i c)) where
    pub stays_kept : keeps ≡ true → edited_all edits c ≡ with_image i (without_image same i c)
    stays_kept kept =
        ap (λ (es : List Edit). edited_all es c)
        (drops_are first edits f e ∙ ap (λ (es : List Edit). key_drops same (key_of i) ++ es) (sym (append-nil (shared_puts i))))
        ∙ later i good c stays same clear []
        ∙ put_kept i good (without_image same i c) (subst (λ t. IsCleared t i (without_image same i c)) (sym is_kept ∙ kept) clear)

    pub stays_kept_free : AreFree edits c
    stays_kept_free =
        subst (λ (es : List Edit). AreFree es c)
        (sym (drops_are first edits f e ∙ ap (λ (es : List Edit). key_drops same (key_of i) ++ es) (sym (append-nil (shared_puts i)))))
        (later_free i good c stays same clear []
        (subst (λ (es : List Edit). AreFree es (without_image same i c)) (sym (append-nil (set_puts i)))
        (set_free i good same (without_image same i c) clear)))

    module _ (all : List Edit) (t : Ancestry) (new : keeps ≡ false)
        (rows : (rows : List NearRow) × once rows × ((v : Node) → row_at rows v ≡ nearest_of t i.shared.found i.shared.fixed v)
        × (all ≡ edits ++ all_mark_puts i rows)) where
      all_are : all ≡ key_drops same (key_of i) ++ (shared_puts i ++ all_mark_puts i rows.0)
      all_are =
          rows.3
          ∙ ap (λ (es : List Edit). es ++ all_mark_puts i rows.0) (drops_are first edits f e)
          ∙ append_assoc (key_drops same (key_of i)) (shared_puts i) (all_mark_puts i rows.0)

      none : IsCleared false i (without_image same i c)
      none = subst (λ u. IsCleared u i (without_image same i c)) (sym is_kept ∙ new) clear

      pub stays_new : c.nodes ≡ t → edited_all all c ≡ with_image i (without_image same i c)
      stays_new tree =
          ap (λ (es : List Edit). edited_all es c) all_are
          ∙ later i good c stays same clear (all_mark_puts i rows.0)
          ∙ put_new i good (without_image same i c) none rows.0 rows.1
          (λ v. rows.2 v ∙ ap (λ (u : Ancestry). nearest_of u i.shared.found i.shared.fixed v) (sym tree))

      pub stays_new_free : AreFree all c
      stays_new_free =
          subst (λ (es : List Edit). AreFree es c) (sym all_are)
          (later_free i good c stays same clear (all_mark_puts i rows.0)
          (free-append (set_puts i) (all_mark_puts i rows.0) (without_image same i c)
          (set_free i good same (without_image same i c) clear)
          (all_marks_free i good (without_image same i c) none rows.0 rows.1)))
