-- What the edits that put an image's rows make of a content.
use Rattle.std.proofs.Common.{◌≡◌, ℕ, true, false, cond, ◌&&◌, List, [], ◌∷◌, ◌++◌, Option, Some, None, sym, refl, ap, ◌∙◌, subst}
use Rattle.std.specs.Prelude.{◌==◌}
use Rattle.std.specs.Option.{option_or}
use Rattle.std.proofs.lemmas.Bool.{eqb-true}
use Rattle.version_nodes.specs.Nodes.{Node, same_node}
use Rattle.version_nodes.specs.declared.statuses.MarkKind.TheVariants.{Found, Fixed}
use Rattle.version_nodes.proofs.NodeLemmas.{same_true}
use Rattle.bug_record.specs.Sets.{has, IsAscending}
use Rattle.bug_record.specs.Marks.{with_node}
use Rattle.bug_record.specs.PackageSets.{with_name}
use Rattle.bug_record.specs.Images.{numbers_of}
use Rattle.bug_record.specs.declared.bug.Member.{Member}
use Rattle.bug_record.specs.declared.bug.SetImage.{SetImage}
use Rattle.store_keys.specs.Keys.{key_of}
use Rattle.version_marks.specs.Nearest.{nearest_of, row_at, once}
use Rattle.version_marks.specs.declared.near.Near.{Near}
use Rattle.version_marks.specs.declared.near.NearRow.{NearRow}
use Rattle.table_content.specs.Content.{Content}
use Rattle.bug_record.specs.declared.tag.Tag.{Tag}
use Rattle.table_content.specs.declared.edit.SetFields.{SetFields}
use Rattle.table_content.specs.Edits.{put_at, placed, kept_fields, edited_all}
use Rattle.table_encodings.proofs.TagLemmas.{read_back}
use Rattle.table_content.specs.EditLists.{member_puts, blocker_puts, affected_puts, mark_puts, near_puts, set_puts, all_mark_puts}
use Rattle.table_content.specs.Images.{with_image, IsGoodImage, IsCleared}
use Rattle.table_content.specs.View.{fields_of}
use Rattle.table_content.proofs.EditLemmas.{same_content, edited_all-append, first_or_later}
use Rattle.table_content.proofs.PlaceLemmas.{at_same, put_each, put_all, placed_all, same_numbers, nodes_all, names_all}

-- ---- each kind of edit

abbrev pub put_keys : ℕ → List Member → (ℕ → Option ℕ) → ℕ → Option ℕ
put_keys k [] f = f
put_keys k (m ∷ ms) f = put_keys k ms (put_at m.number (Some k) f)

pub put_keys-is : (k : ℕ) (ms : List Member) (f : ℕ → Option ℕ) (n : ℕ) → put_keys k ms f n ≡ cond (has (numbers_of ms) n) (Some k) (f n)
put_keys-is k [] f n = refl
put_keys-is k (m ∷ ms) f n =
    put_keys-is k ms (put_at m.number (Some k) f) n ∙ first_or_later (m.number == n) (has (numbers_of ms) n) (Some k) (f n)

abbrev pub put_near : ℕ → List NearRow → (ℕ → Node → Option Near) → ℕ → Node → Option Near
put_near k [] f = f
put_near k (r ∷ rows) f = put_near k rows (λ j w. cond ((k == j) && same_node r.node w) (Some r.near) (f j w))

pub put_near-is : (k : ℕ) (rows : List NearRow) (f : ℕ → Node → Option Near) → once rows → (j : ℕ) (w : Node)
    → put_near k rows f j w ≡ cond (k == j) (option_or (row_at rows w) (f j w)) (f j w)
put_near-is k [] f o j w = elim (k == j) as (λ t. f j w ≡ cond t (f j w) (f j w)) [ true ↦ refl | false ↦ refl ]
put_near-is k (r ∷ rows) f o j w =
    put_near-is k rows (λ i v. cond ((k == i) && same_node r.node v) (Some r.near) (f i v)) o.1 j w
    ∙ elim (k == j) as (λ t. cond t (option_or (row_at rows w) (cond (t && same_node r.node w) (Some r.near) (f j w)))
    (cond (t && same_node r.node w) (Some r.near) (f j w))
    ≡ cond t (option_or (cond (same_node r.node w) (Some r.near) (row_at rows w)) (f j w)) (f j w)) [
      | true ↦ elim (same_node r.node w) as (λ s. same_node r.node w ≡ s
          → option_or (row_at rows w) (cond s (Some r.near) (f j w)) ≡ option_or (cond s (Some r.near) (row_at rows w)) (f j w)) [
            | true ↦ λ e. ap (λ (x : Option Near). option_or x (Some r.near)) (sym (ap (row_at rows) (same_true r.node w e)) ∙ o.0)
            | false ↦ λ e. refl
          ] refl
      | false ↦ refl
    ]

pub members_put : (k : ℕ) (ms : List Member) (c : Content) → edited_all (member_puts k ms) c
    ≡ record c { key = put_keys k ms c.key; members = put_each (placed (λ (m : Member). m.number)) k ms c.members }
members_put k [] c = refl
members_put k (m ∷ ms) c = members_put k ms (record c {
  key = put_at m.number (Some k) c.key;
  members = put_at k (placed (λ (m : Member). m.number) (c.members k) m) c.members;
})

pub blockers_put : (k : ℕ) (bs : List ℕ) (c : Content) → edited_all (blocker_puts k bs) c
    ≡ record c { blockers = put_each (placed (λ n. n)) k bs c.blockers }
blockers_put k [] c = refl
blockers_put k (b ∷ bs) c = blockers_put k bs (record c { blockers = put_at k (placed (λ n. n) (c.blockers k) b) c.blockers })

pub affected_put : (k : ℕ) (names : List (List ℕ)) (c : Content) → edited_all (affected_puts k names) c
    ≡ record c { affects = put_each with_name k names c.affects }
affected_put k [] c = refl
affected_put k (n ∷ names) c = affected_put k names (record c { affects = put_at k (with_name (c.affects k) n) c.affects })

pub found_put : (k : ℕ) (vs : List Node) (c : Content) → edited_all (mark_puts k Found vs) c
    ≡ record c { found = put_each with_node k vs c.found }
found_put k [] c = refl
found_put k (v ∷ vs) c = found_put k vs (record c { found = put_at k (with_node (c.found k) v) c.found })

pub fixed_put : (k : ℕ) (vs : List Node) (c : Content) → edited_all (mark_puts k Fixed vs) c
    ≡ record c { fixed = put_each with_node k vs c.fixed }
fixed_put k [] c = refl
fixed_put k (v ∷ vs) c = fixed_put k vs (record c { fixed = put_at k (with_node (c.fixed k) v) c.fixed })

pub near_put : (k : ℕ) (rows : List NearRow) (c : Content) → edited_all (near_puts k rows) c ≡ record c { near = put_near k rows c.near }
near_put k [] c = refl
near_put k (r ∷ rows) c =
    near_put k rows (record c { near = λ j w. cond ((k == j) && same_node r.node w) (Some r.near) (c.near j w) })

-- ---- an image

-- all but the marks
abbrev pub after_set : SetImage → Content → Content
after_set i c = record c {
  key = put_keys (key_of i) i.members c.key;
  members = put_each (placed (λ (m : Member). m.number)) (key_of i) i.members c.members;
  fields = put_at (key_of i) (Some (kept_fields (fields_of i.shared))) c.fields;
  blockers = put_each (placed (λ n. n)) (key_of i) i.shared.blockers c.blockers;
  affects = put_each with_name (key_of i) i.shared.affects c.affects;
}

pub set_put : (i : SetImage) (c : Content) → edited_all (set_puts i) c ≡ after_set i c
set_put i c =
    let k = key_of i in
    let d : Content = record c {
      key = put_keys k i.members c.key;
      members = put_each (placed (λ (m : Member). m.number)) k i.members c.members;
    } in
    let e : Content = record d { fields = put_at k (Some (kept_fields (fields_of i.shared))) d.fields } in
    edited_all-append (member_puts k i.members) _ c
    ∙ ap (λ (x : Content). edited_all (blocker_puts k i.shared.blockers ++ affected_puts k i.shared.affects)
    (record x { fields = put_at k (Some (kept_fields (fields_of i.shared))) x.fields }))
    (members_put k i.members c)
    ∙ edited_all-append (blocker_puts k i.shared.blockers) (affected_puts k i.shared.affects) e
    ∙ ap (edited_all (affected_puts k i.shared.affects)) (blockers_put k i.shared.blockers e)
    ∙ affected_put k i.shared.affects (record e { blockers = put_each (placed (λ n. n)) k i.shared.blockers e.blockers })

abbrev after_marks : SetImage → List NearRow → Content → Content
after_marks i rows c = record c {
  found = put_each with_node (key_of i) i.shared.found c.found;
  fixed = put_each with_node (key_of i) i.shared.fixed c.fixed;
  near = put_near (key_of i) rows c.near;
}

marks_put : (i : SetImage) (rows : List NearRow) (c : Content) → edited_all (all_mark_puts i rows) c ≡ after_marks i rows c
marks_put i rows c =
    let k = key_of i in
    let d : Content = record c { found = put_each with_node k i.shared.found c.found } in
    edited_all-append (mark_puts k Found i.shared.found) _ c
    ∙ ap (edited_all (mark_puts k Fixed i.shared.fixed ++ near_puts k rows)) (found_put k i.shared.found c)
    ∙ edited_all-append (mark_puts k Fixed i.shared.fixed) _ d
    ∙ ap (edited_all (near_puts k rows)) (fixed_put k i.shared.fixed d)
    ∙ near_put k rows (record d { fixed = put_each with_node k i.shared.fixed d.fixed })

module _ (i : SetImage) (good : IsGoodImage i) (c : Content) where
  pub numbers_put : c.members (key_of i) ≡ [] → (n : ℕ)
      → put_each (placed (λ (m : Member). m.number)) (key_of i) i.members c.members n ≡ put_at (key_of i) i.members c.members n
  numbers_put none = put_all (placed (λ (m : Member). m.number)) (key_of i) i.members c.members none
      (placed_all (λ (m : Member). m.number) i.members good.members)

  waits_put : c.blockers (key_of i) ≡ [] → (n : ℕ)
      → put_each (placed (λ n. n)) (key_of i) i.shared.blockers c.blockers n ≡ put_at (key_of i) i.shared.blockers c.blockers n
  waits_put none = put_all (placed (λ n. n)) (key_of i) i.shared.blockers c.blockers none
      (placed_all (λ n. n) i.shared.blockers (subst IsAscending (sym (same_numbers i.shared.blockers)) good.blockers))

  affected_all : c.affects (key_of i) ≡ [] → (n : ℕ)
      → put_each with_name (key_of i) i.shared.affects c.affects n ≡ put_at (key_of i) i.shared.affects c.affects n
  affected_all none = put_all with_name (key_of i) i.shared.affects c.affects none (names_all i.shared.affects good.affects)

  -- its tags are a set already
  fields_put : (n : ℕ) → put_at (key_of i) (Some (kept_fields (fields_of i.shared))) c.fields n
      ≡ put_at (key_of i) (Some (fields_of i.shared)) c.fields n
  fields_put n = ap (λ (ts : List Tag). put_at (key_of i) (Some (let f : SetFields = record (fields_of i.shared) { tags = ts } in f)) c.fields n)
      (read_back i.shared.tags good.tags)

  -- with the marks that stand there already
  pub put_kept : IsCleared true i c → edited_all (set_puts i ++ []) c ≡ with_image i c
  put_kept clear = edited_all-append (set_puts i) [] c ∙ set_put i c ∙ same_content _ _ (record {
    next = refl;
    key = put_keys-is (key_of i) i.members c.key;
    members = numbers_put clear.members;
    fields = fields_put;
    found = λ k. at_same (key_of i) c.found k ∙ ap (λ (x : List Node). put_at (key_of i) x c.found k) clear.marks.found;
    fixed = λ k. at_same (key_of i) c.fixed k ∙ ap (λ (x : List Node). put_at (key_of i) x c.fixed k) clear.marks.fixed;
    blockers = waits_put clear.blockers;
    affects = affected_all clear.affects;
    nodes = refl;
    near = λ k v.
        ap (λ (f : Node → Option Near). f v) (at_same (key_of i) c.near k)
        ∙ ap (λ (f : Node → Option Near). put_at (key_of i) f c.near k v) (λ j. λ w. clear.marks.near w j);
    messages = λ id. refl;
    outcomes = λ id. refl;
    outcome_numbers = λ id place. refl;
  })

  -- with new marks
  pub put_new : IsCleared false i c → (rows : List NearRow) → once rows
      → ((v : Node) → row_at rows v ≡ nearest_of c.nodes i.shared.found i.shared.fixed v)
      → edited_all (set_puts i ++ all_mark_puts i rows) c ≡ with_image i c
  put_new clear rows o are =
      edited_all-append (set_puts i) (all_mark_puts i rows) c
      ∙ ap (edited_all (all_mark_puts i rows)) (set_put i c)
      ∙ marks_put i rows (after_set i c)
      ∙ same_content _ _ (record {
        next = refl;
        key = put_keys-is (key_of i) i.members c.key;
        members = numbers_put clear.members;
        fields = fields_put;
        found = put_all with_node (key_of i) i.shared.found c.found clear.marks.found (nodes_all i.shared.found good.found);
        fixed = put_all with_node (key_of i) i.shared.fixed c.fixed clear.marks.fixed (nodes_all i.shared.fixed good.fixed);
        blockers = waits_put clear.blockers;
        affects = affected_all clear.affects;
        nodes = refl;
        near = λ k v. put_near-is (key_of i) rows c.near o k v ∙ elim (key_of i == k) as (λ t. (key_of i == k) ≡ t
            → cond t (option_or (row_at rows v) (c.near k v)) (c.near k v)
            ≡ cond t (nearest_of c.nodes i.shared.found i.shared.fixed) (c.near k) v) [
              | true ↦ λ q.
                  ap (option_or (row_at rows v)) (sym (ap (λ z. c.near z v) (eqb-true (key_of i) k q)) ∙ clear.marks.near v)
                  ∙ alone (row_at rows v) ∙ are v
              | false ↦ λ q. refl
            ] refl;
        messages = λ id. refl;
        outcomes = λ id. refl;
        outcome_numbers = λ id place. refl;
      })
    where
      alone : (o : Option Near) → option_or o None ≡ o
      alone None = refl
      alone (Some x) = refl
