-- What the edits of an image whose bugs stay, and of whose marks none is lost, make of a content,
-- where the marks that it keeps stay, too.
use Rattle.std.proofs.Common.{◌≡◌, ◌≤◌, ℕ, Bool, true, false, cond, ◌||◌, List, [], ◌∷◌, ◌++◌, length, drop, Some, None, arith, sym, refl, ap, ◌∙◌, subst, Less}
use Rattle.std.proofs.Common.{append_assoc}
use Rattle.std.specs.Prelude.{not, fold, ◌==◌}
use Rattle.std.specs.List.{AllByRecursion}
use Rattle.std.specs.List.Sorted.{IsStrictlySortedBy}
use Rattle.std.proofs.lemmas.Bool.{false≢true, and_parts, or_right}
use Rattle.std.proofs.lemmas.Bool.Decides.{nat_tests}
use Rattle.std.proofs.lemmas.List.{at_drop_all}
use Rattle.std.proofs.lemmas.List.Kept.{IsStrictlySortedBy-filter}
use Rattle.base_words.specs.declared.named.TheConstants.{LARGEST_NUMBER}
use Rattle.version_nodes.specs.Nodes.{Node, same_node, node_cmp}
use Rattle.version_nodes.specs.NodeLaws.{same_node_equiv, node_cmp_total, node_ties}
use Rattle.version_nodes.specs.Trees.{Ancestry, has_node}
use Rattle.version_nodes.specs.declared.statuses.MarkKind.TheVariants.{Found, Fixed}
use Rattle.version_nodes.proofs.NodeLemmas.{same_true, same_itself, has_cases}
use Rattle.bug_record.specs.Marks.{with_node}
use Rattle.bug_record.specs.Ordered.{with_each}
use Rattle.bug_record.specs.PackageSets.{with_name, has_name}
use Rattle.bug_record.specs.Sets.{has}
use Rattle.bug_record.specs.declared.bug.SetImage.{SetImage}
use Rattle.bug_record.proofs.MarkLemmas.{same-sorted_nodes}
use Rattle.base_sequences.proofs.OrderedSetLemmas.{sorted-each, in-each}
use Rattle.store_keys.specs.Keys.{key_of}
use Rattle.version_marks.specs.Nearest.{nearest_of, row_at, once}
use Rattle.version_marks.specs.declared.near.NearRow.{NearRow}
use Rattle.table_content.specs.Content.{Content}
use Rattle.table_content.specs.Edits.{put_at, placed, kept_fields, edited_all, without_marks, without_affected, without_blockers, without_fields}
use Rattle.table_content.specs.EditLists.{blocker_puts, affected_puts, mark_puts, mark_moves, near_moves, shared_puts, moves}
use Rattle.table_content.specs.Free.{AreFree}
use Rattle.table_content.specs.Images.{same_marks, without_image, with_image, IsGoodImage, IsCleared}
use Rattle.table_content.specs.Moving.{loses_none, is_part, adds_alone, others}
use Rattle.table_content.specs.Staying.{Stays}
use Rattle.table_content.specs.View.{fields_of}
use Rattle.table_content.specs.declared.edit.Edit.{Edit}
use Rattle.table_content.specs.declared.edit.Edit.TheVariants as edits
use Rattle.table_content.proofs.ClosedLemmas.{own_key}
use Rattle.table_content.proofs.EditLemmas.{edited_all-append}
use Rattle.table_content.proofs.FreeLemmas.{free-append, blockers_free, affected_free, marks_free}
use Rattle.table_content.proofs.MoveLemmas.{all_moves, all_made, near_moves_free}
use Rattle.table_content.proofs.PlaceLemmas.{at_itself, at_twice, put_each, put_each-is, put_all, fold-each, nodes_all}
use Rattle.table_content.proofs.PutLemmas.{blockers_put, affected_put, found_put, fixed_put}

-- ---- parts of a list

part_in : (ps ns : List Node) → is_part ps ns ≡ true → (v : Node) → has_node ps v ≡ true → has_node ns v ≡ true
part_in [] ns h v e = absurd (false≢true e)
part_in (p ∷ ps) [] h v e = absurd (false≢true h)
part_in (p ∷ ps) (n ∷ ns) h v e =
    elim (same_node p n) as (λ t. same_node p n ≡ t → cond t (is_part ps ns) (is_part (p ∷ ps) ns) ≡ true → (same_node v n || has_node ns v) ≡ true) [
      | true ↦ λ q g. has_cases v p ps e
          (λ r. ap (λ t. t || has_node ns v) (ap (λ (w : Node). same_node w n) (r ∙ same_true p n q) ∙ same_itself n))
          (λ r. or_right (same_node v n) (has_node ns v) (part_in ps ns g v r))
      | false ↦ λ q g. or_right (same_node v n) (has_node ns v) (part_in (p ∷ ps) ns g v e)
    ] refl h

after_part : (k : Node) (ps ns : List Node) → is_part ps ns ≡ true → AllByRecursion (λ m. node_cmp k m ≡ Less) ns
    → AllByRecursion (λ m. node_cmp k m ≡ Less) ps
after_part k [] ns h a = tt
after_part k (p ∷ ps) [] h a = absurd (false≢true h)
after_part k (p ∷ ps) (n ∷ ns) h a =
    elim (same_node p n) as (λ t. same_node p n ≡ t → cond t (is_part ps ns) (is_part (p ∷ ps) ns) ≡ true
    → AllByRecursion (λ m. node_cmp k m ≡ Less) (p ∷ ps)) [
      | true ↦ λ q g. (ap (node_cmp k) (same_true p n q) ∙ a.0, after_part k ps ns g a.1)
      | false ↦ λ q g. after_part k (p ∷ ps) ns g a.1
    ] refl h

part_sorted : (ps ns : List Node) → is_part ps ns ≡ true → IsStrictlySortedBy node_cmp ns → IsStrictlySortedBy node_cmp ps
unfolding IsStrictlySortedBy
part_sorted [] ns h s = tt
part_sorted (p ∷ ps) [] h s = absurd (false≢true h)
part_sorted (p ∷ ps) (n ∷ ns) h s =
    elim (same_node p n) as (λ t. same_node p n ≡ t → cond t (is_part ps ns) (is_part (p ∷ ps) ns) ≡ true
    → IsStrictlySortedBy node_cmp (p ∷ ps)) [
      | true ↦ λ q g. (
        subst (λ (m : Node). AllByRecursion (λ w. node_cmp m w ≡ Less) ps) (sym (same_true p n q)) (after_part n ps ns g s.0),
        part_sorted ps ns g s.1,
      )
      | false ↦ λ q g. part_sorted (p ∷ ps) ns g s.1
    ] refl h

-- where no node is left, the part is one where nothing of it is left
pub none_left : (ps ns : List Node) (i : ℕ) → length ns ≤ i → (length ps == 0) ≡ is_part ps (drop i ns)
none_left ps ns i far = empty ps ∙ sym (at_drop_all (is_part ps) ns i far)
  where
    empty : (qs : List Node) → (length qs == 0) ≡ is_part qs []
    empty [] = refl
    empty (q ∷ qs) = grind (arith, nat_tests)

-- ---- the others of a list

others_has : (was now : List Node) (v : Node) → has_node was v ≡ false → has_node (others was now) v ≡ has_node now v
others_has was [] v off = refl
others_has was (m ∷ now) v off =
    elim (has_node was m) as (λ t. has_node was m ≡ t
    → has_node (cond (not t) (m ∷ others was now) (others was now)) v ≡ (same_node v m || has_node now v)) [
      | true ↦ λ e. others_has was now v off ∙ ap (λ t. t || has_node now v) (sym (another e (same_node v m) refl))
      | false ↦ λ e. ap (λ t. same_node v m || t) (others_has was now v off)
    ] refl
  where
    another : has_node was m ≡ true → (t : Bool) → same_node v m ≡ t → same_node v m ≡ false
    another e true q = absurd (false≢true (sym off ∙ ap (has_node was) (same_true v m q) ∙ e))
    another e false q = q

others_out : (was now : List Node) (v : Node) → has_node (others was now) v ≡ true → has_node was v ≡ false
others_out was [] v h = absurd (false≢true h)
others_out was (m ∷ now) v h =
    elim (has_node was m) as (λ t. has_node was m ≡ t
    → has_node (cond (not t) (m ∷ others was now) (others was now)) v ≡ true → has_node was v ≡ false) [
      | true ↦ λ e g. others_out was now v g
      | false ↦ λ e g. has_cases v m (others was now) g (λ q. ap (has_node was) q ∙ e) (λ r. others_out was now v r)
    ] refl h

-- a part and the others are the whole
whole_again : (was now : List Node) → is_part was now ≡ true → IsStrictlySortedBy node_cmp now → fold with_node was (others was now) ≡ now
whole_again was now part s =
    fold-each node_cmp was (others was now)
    ∙ same-sorted_nodes (with_each node_cmp was (others was now)) now
    (sorted-each node_cmp_total (others was now) was (part_sorted was now part s)) s
    (λ v. in-each node_cmp_total same_node_equiv node_ties (others was now) was v ∙ members v (has_node was v) refl)
  where
    members : (v : Node) (t : Bool) → has_node was v ≡ t → (has_node was v || has_node (others was now) v) ≡ has_node now v
    members v true q = ap (λ t. t || has_node (others was now) v) q ∙ sym (part_in was now part v q)
    members v false q = ap (λ t. t || has_node (others was now) v) q ∙ others_has was now v q

sorted_others : (was now : List Node) → IsStrictlySortedBy node_cmp now → IsStrictlySortedBy node_cmp (others was now)
sorted_others was now s = IsStrictlySortedBy-filter node_cmp (λ v. not (has_node was v)) now s

-- ---- the marks under one key

-- the others come to a part, or all come anew: that is the same
same_at : (k : ℕ) (was now : List Node) (f : ℕ → List Node) → f k ≡ was → is_part was now ≡ true → IsStrictlySortedBy node_cmp now
    → fold with_node [] now ≡ now → (n : ℕ)
    → put_each with_node k (others was now) f n ≡ put_each with_node k now (put_at k [] f) n
same_at k was now f here part s anew n =
    put_each-is with_node k (others was now) f n
    ∙ ap (λ ys. put_at k (fold with_node ys (others was now)) f n) here
    ∙ ap (λ ys. put_at k ys f n) (whole_again was now part s)
    ∙ sym (put_all with_node k now (put_at k [] f) (at_itself k [] f) anew n ∙ at_twice k [] now f n)

-- ---- the edits of the image

module _ (i : SetImage) (good : IsGoodImage i) (found fixed : List Node) (c : Content) (stood_found : c.found (key_of i) ≡ found)
    (stood_fixed : c.fixed (key_of i) ≡ fixed) where
  abbrev k : ℕ
  k = key_of i

  abbrev is_small : k ≤ LARGEST_NUMBER
  is_small = good.numbers k (own_key i good.some)

  -- what stands under the key is gone, but for its bugs and its marks
  abbrev left : Content
  left = without_affected k (without_blockers k (without_fields k c))

  -- and its shared fields came
  abbrev shared_in : Content → Content
  shared_in d = record d {
    fields = put_at k (Some (kept_fields (fields_of i.shared))) d.fields;
    blockers = put_each (placed (λ n. n)) k i.shared.blockers d.blockers;
    affects = put_each with_name k i.shared.affects d.affects;
  }

  shared_put : (d : Content) → edited_all (shared_puts i) d ≡ shared_in d
  shared_put d =
      let e : Content = record d { fields = put_at k (Some (kept_fields (fields_of i.shared))) d.fields } in
      edited_all-append (blocker_puts k i.shared.blockers) (affected_puts k i.shared.affects) e
      ∙ ap (edited_all (affected_puts k i.shared.affects)) (blockers_put k i.shared.blockers e)
      ∙ affected_put k i.shared.affects (record e { blockers = put_each (placed (λ n. n)) k i.shared.blockers e.blockers })

  then_shared : (es : List Edit) (d : Content) → edited_all (shared_puts i ++ es) d ≡ edited_all es (shared_in d)
  then_shared es d = edited_all-append (shared_puts i) es d ∙ ap (edited_all es) (shared_put d)

  abbrev all_marks : List Edit
  all_marks = mark_puts k Found i.shared.found ++ mark_puts k Fixed i.shared.fixed

  abbrev other_marks : List Edit
  other_marks = mark_puts k Found (others found i.shared.found) ++ mark_puts k Fixed (others fixed i.shared.fixed)

  marks_in : (xs ys : List Node) (d : Content) → edited_all (mark_puts k Found xs ++ mark_puts k Fixed ys) d
      ≡ record d { found = put_each with_node k xs d.found; fixed = put_each with_node k ys d.fixed }
  marks_in xs ys d =
      edited_all-append (mark_puts k Found xs) (mark_puts k Fixed ys) d
      ∙ ap (edited_all (mark_puts k Fixed ys)) (found_put k xs d)
      ∙ fixed_put k ys (record d { found = put_each with_node k xs d.found })

  marks_moved : (d : Content) → d.found ≡ c.found → d.fixed ≡ c.fixed
      → edited_all (mark_moves i found fixed) d ≡ edited_all all_marks (without_marks k d)
  marks_moved d as_found as_fixed =
      elim (adds_alone i found fixed) as (λ t. adds_alone i found fixed ≡ t
      → edited_all (cond t other_marks (edits.DropMarks k ∷ all_marks)) d ≡ edited_all all_marks (without_marks k d)) [
        | true ↦ λ adds.
            let both = and_parts (is_part found i.shared.found) (is_part fixed i.shared.fixed) adds in
            marks_in (others found i.shared.found) (others fixed i.shared.fixed) d
            ∙ (λ p. record d {
              found = λ n. same_at k found i.shared.found d.found (ap (λ (f : ℕ → List Node). f k) as_found ∙ stood_found) both.0
                  good.found.ascending (nodes_all i.shared.found good.found) n p;
              fixed = λ n. same_at k fixed i.shared.fixed d.fixed (ap (λ (f : ℕ → List Node). f k) as_fixed ∙ stood_fixed) both.1
                  good.fixed.ascending (nodes_all i.shared.fixed good.fixed) n p;
            })
            ∙ sym (marks_in i.shared.found i.shared.fixed (without_marks k d))
        | false ↦ λ adds. refl
      ] refl

  module _ (rows : List NearRow) where
    abbrev near : List Edit
    near = near_moves k found fixed rows

    as_all : edited_all (moves i found fixed rows) c ≡ edited_all (all_moves i found fixed rows) c
    as_all =
        then_shared (mark_moves i found fixed ++ near) left
        ∙ edited_all-append (mark_moves i found fixed) near (shared_in left)
        ∙ ap (edited_all near) (marks_moved (shared_in left) refl refl)
        ∙ sym (edited_all-append all_marks near (without_marks k (shared_in left)))
        ∙ ap (λ (es : List Edit). edited_all es (without_marks k (shared_in left)))
        (append_assoc (mark_puts k Found i.shared.found) (mark_puts k Fixed i.shared.fixed) near)
        ∙ sym (then_shared (mark_puts k Found i.shared.found ++ (mark_puts k Fixed i.shared.fixed ++ near)) (without_marks k left))

    pub moves_made : (t : Ancestry) → once rows → ((v : Node) → row_at rows v ≡ nearest_of t i.shared.found i.shared.fixed v)
        → same_marks i found fixed ≡ false → loses_none i found fixed ≡ true → c.nodes ≡ t
        → ((v : Node) → c.near k v ≡ nearest_of c.nodes found fixed v) → Stays i c → IsCleared false i (without_image false i c)
        → edited_all (moves i found fixed rows) c ≡ with_image i (without_image false i c)
    moves_made t o are new none tree sees stays clear = as_all ∙ all_made i found fixed rows t o are new c none tree sees good stays clear

    -- ---- nothing stands in their way

    shared_free : AreFree (shared_puts i) left
    shared_free =
        let e : Content = record left { fields = put_at k (Some (kept_fields (fields_of i.shared))) left.fields } in (
          (is_small, at_itself k None c.fields),
          free-append (blocker_puts k i.shared.blockers) (affected_puts k i.shared.affects) e
              (blockers_free k i.shared.blockers e is_small good.blocker_numbers good.blockers
              (λ n q. ap (λ (bs : List ℕ). has bs n) (at_itself k [] c.blockers)))
              (subst (λ (x : Content). AreFree (affected_puts k i.shared.affects) x) (sym (blockers_put k i.shared.blockers e))
              (affected_free k i.shared.affects _ is_small good.affects.ascending (λ m q. ap (λ (ns : List (List ℕ)). has_name ns m) (at_itself k [] c.affects)))),
        )

    marks_are_free : (xs ys : List Node) (d : Content) → IsStrictlySortedBy node_cmp xs → IsStrictlySortedBy node_cmp ys
        → ((w : Node) → has_node xs w ≡ true → has_node (d.found k) w ≡ false)
        → ((w : Node) → has_node ys w ≡ true → has_node (d.fixed k) w ≡ false)
        → AreFree (mark_puts k Found xs ++ mark_puts k Fixed ys) d
    marks_are_free xs ys d a b f x =
        free-append (mark_puts k Found xs) (mark_puts k Fixed ys) d (marks_free k Found is_small xs d a f)
        (subst (λ (z : Content). AreFree (mark_puts k Fixed ys) z) (sym (found_put k xs d))
        (marks_free k Fixed is_small ys (record d { found = put_each with_node k xs d.found }) b x))

    move_free : AreFree (mark_moves i found fixed) (shared_in left)
    move_free =
        elim (adds_alone i found fixed) as (λ t. AreFree (cond t other_marks (edits.DropMarks k ∷ all_marks)) (shared_in left)) [
          | true ↦ marks_are_free (others found i.shared.found) (others fixed i.shared.fixed) (shared_in left)
              (sorted_others found i.shared.found good.found.ascending) (sorted_others fixed i.shared.fixed good.fixed.ascending)
              (λ w h. ap (λ (vs : List Node). has_node vs w) stood_found ∙ others_out found i.shared.found w h)
              (λ w h. ap (λ (vs : List Node). has_node vs w) stood_fixed ∙ others_out fixed i.shared.fixed w h)
          | false ↦ (
            is_small,
            marks_are_free i.shared.found i.shared.fixed (without_marks k (shared_in left)) good.found.ascending good.fixed.ascending
                (λ w h. ap (λ (vs : List Node). has_node vs w) (at_itself k [] c.found))
                (λ w h. ap (λ (vs : List Node). has_node vs w) (at_itself k [] c.fixed)),
          )
        ]

    pub moves_free : AreFree (moves i found fixed rows) c
    moves_free = (
      is_small,
      (
        is_small,
        (
          is_small,
          free-append (shared_puts i) (mark_moves i found fixed ++ near) left shared_free
              (subst (λ (x : Content). AreFree (mark_moves i found fixed ++ near) x) (sym (shared_put left))
              (free-append (mark_moves i found fixed) near (shared_in left) move_free (near_moves_free k found fixed rows _ is_small))),
        ),
      ),
    )
