-- What the edits of an image whose bugs stay, and of whose marks none is lost, make of a content.
use Rattle.std.proofs.Common.{◌≡◌, ◌≤◌, ℕ, Bool, true, false, cond, ◌&&◌, ◌||◌, List, [], ◌∷◌, ◌++◌, Option, Some, None, sym, refl, ap, ◌∙◌, subst}
use Rattle.std.proofs.Common.{append_assoc}
use Rattle.std.specs.Prelude.{not, ◌==◌, option_map, ⊤}
use Rattle.std.specs.Option.{option_or}
use Rattle.std.proofs.lemmas.Bool.{eqb-true, eq-eqb, false≢true, and_parts}
use Rattle.std.proofs.lemmas.Option.{none-some, same_Some}
use Rattle.base_words.specs.declared.named.TheConstants.{LARGEST_NUMBER}
use Rattle.version_nodes.specs.Nodes.{Node, same_node}
use Rattle.version_nodes.specs.Trees.{Ancestry, has_node, knows, line}
use Rattle.version_nodes.specs.Statuses.{first_marked, kind_at}
use Rattle.version_nodes.specs.declared.statuses.MarkKind.{MarkKind}
use Rattle.version_nodes.specs.declared.statuses.MarkKind.TheVariants.{Found, Fixed}
use Rattle.version_nodes.proofs.NodeLemmas.{same_true, same_itself, has_cases}
use Rattle.bug_record.specs.declared.bug.SetImage.{SetImage}
use Rattle.store_keys.specs.Keys.{key_of}
use Rattle.version_marks.specs.Nearest.{nearest_on, nearest_of, own_mark, row_at, once}
use Rattle.version_marks.specs.declared.near.Near.{Near}
use Rattle.version_marks.specs.declared.near.NearRow.{NearRow}
use Rattle.table_content.specs.Content.{Content}
use Rattle.table_content.specs.Edits.{put_at, edited, edited_all, without_marks, without_affected, without_blockers, without_fields}
use Rattle.table_content.specs.EditLists.{blocker_puts, affected_puts, mark_puts, near_puts, near_moves, shared_puts, all_mark_puts, key_drops}
use Rattle.table_content.specs.Free.{AreFree}
use Rattle.table_content.specs.Images.{same_marks, without_image, with_image, IsGoodImage, IsCleared}
use Rattle.table_content.specs.Moving.{is_marked, is_marked_as, stood, are_marked, loses_none}
use Rattle.table_content.specs.Staying.{Stays}
use Rattle.table_content.specs.declared.edit.Edit.{Edit}
use Rattle.table_content.specs.declared.edit.Edit.TheVariants as edits
use Rattle.table_content.proofs.EditLemmas.{edited_all-append}
use Rattle.table_content.proofs.PutLemmas.{put_near, put_near-is, near_put}
use Rattle.table_content.proofs.StayLemmas.{stays_new}

-- ---- which marks are lost

is_there : (found fixed nodes : List Node) → are_marked found fixed nodes ≡ true → (v : Node) → has_node nodes v ≡ true → is_marked found fixed v ≡ true
is_there found fixed [] h v e = absurd (false≢true e)
is_there found fixed (n ∷ nodes) h v e =
    let both = and_parts (is_marked found fixed n) (are_marked found fixed nodes) h in
    has_cases v n nodes e (λ q. ap (is_marked found fixed) q ∙ both.0) (λ q. is_there found fixed nodes both.1 v q)

none_lost : (i : SetImage) (found fixed : List Node) → loses_none i found fixed ≡ true
    → (v : Node) → is_marked found fixed v ≡ true → is_marked i.shared.found i.shared.fixed v ≡ true
none_lost i found fixed h v e =
    let both = and_parts (are_marked i.shared.found i.shared.fixed found) (are_marked i.shared.found i.shared.fixed fixed) h in
    cases (has_node found v) refl e both.0 both.1
  where
    cases : (b : Bool) → has_node found v ≡ b → (b || has_node fixed v) ≡ true → are_marked i.shared.found i.shared.fixed found ≡ true
        → are_marked i.shared.found i.shared.fixed fixed ≡ true → is_marked i.shared.found i.shared.fixed v ≡ true
    cases true q e one two = is_there i.shared.found i.shared.fixed found one v q
    cases false q e one two = is_there i.shared.found i.shared.fixed fixed two v e

-- ---- what a node sees

-- the nearest mark that is new
abbrev new_one : List Node → List Node → Option Near → Option Near
new_one found fixed None = None
new_one found fixed (Some near) = cond (stood found fixed near) None (Some near)

-- a node that is marked as this is marked, as this
marked_as : (found fixed : List Node) (kind : MarkKind) (v : Node) → is_marked_as found fixed kind v ≡ true
    → (is_marked found fixed v ≡ true) × (kind_at found v ≡ kind)
marked_as found fixed Found v h = (ap (λ b. b || has_node fixed v) h, ap (λ b. cond b Found Fixed) h)
marked_as found fixed Fixed v h = cases (has_node found v) h
  where
    cases : (b : Bool) → (not b && has_node fixed v) ≡ true → ((b || has_node fixed v) ≡ true) × (cond b Found Fixed ≡ Fixed)
    cases true e = absurd (false≢true e)
    cases false e = (e, refl)

module _ (found fixed found' fixed' : List Node) (none : (v : Node) → is_marked found fixed v ≡ true → is_marked found' fixed' v ≡ true) where
  unmarked : (v : Node) → is_marked found' fixed' v ≡ false → is_marked found fixed v ≡ false
  unmarked v e = cases (is_marked found fixed v) refl
    where
      cases : (b : Bool) → is_marked found fixed v ≡ b → is_marked found fixed v ≡ false
      cases true h = absurd (false≢true (sym e ∙ none v h))
      cases false h = h

  abbrev seen_if : List Node → List Node → Node → List Node → Bool → Option Near
  seen_if f x v vs b = option_map (own_mark f) (cond b (Some v) (first_marked f x vs))

  -- where a line has no mark now, it had none
  had_none : (vs : List Node) → nearest_on found' fixed' vs ≡ None → nearest_on found fixed vs ≡ None
  had_none [] e = refl
  had_none (v ∷ vs) e = cases (had_none vs) (is_marked found' fixed' v) refl
    where
      cases : (nearest_on found' fixed' vs ≡ None → nearest_on found fixed vs ≡ None) → (b : Bool) → is_marked found' fixed' v ≡ b
          → nearest_on found fixed (v ∷ vs) ≡ None
      cases later true h = absurd (none-some (own_mark found' v) (sym e ∙ ap (seen_if found' fixed' v vs) h))
      cases later false h = ap (seen_if found fixed v vs) (unmarked v h) ∙ later (sym (ap (seen_if found' fixed' v vs) h) ∙ e)

  -- where its first mark stood, it was the first one
  was_first : (vs : List Node) (near : Near) → nearest_on found' fixed' vs ≡ Some near → stood found fixed near ≡ true
      → nearest_on found fixed vs ≡ Some near
  was_first [] near e s = absurd (none-some near e)
  was_first (v ∷ vs) near e s = cases (λ is. was_first vs near is s) (is_marked found' fixed' v) refl
    where
      here : own_mark found' v ≡ near → nearest_on found fixed (v ∷ vs) ≡ Some near
      here is =
          let was = marked_as found fixed (kind_at found' v) v (ap (stood found fixed) is ∙ s) in
          ap (seen_if found fixed v vs) was.0
          ∙ ap (λ (kind : MarkKind). Some (let near : Near = record { mark = v; kind = kind } in near)) was.1
          ∙ ap (λ (near : Near). Some near) is

      cases : (nearest_on found' fixed' vs ≡ Some near → nearest_on found fixed vs ≡ Some near) → (b : Bool) → is_marked found' fixed' v ≡ b
          → nearest_on found fixed (v ∷ vs) ≡ Some near
      cases later true h = here (same_Some (own_mark found' v) near (sym (ap (seen_if found' fixed' v vs) h) ∙ e))
      cases later false h = ap (seen_if found fixed v vs) (unmarked v h) ∙ later (sym (ap (seen_if found' fixed' v vs) h) ∙ e)

  on_line : (vs : List Node) → option_or (new_one found fixed (nearest_on found' fixed' vs)) (nearest_on found fixed vs) ≡ nearest_on found' fixed' vs
  on_line vs = cases (nearest_on found' fixed' vs) refl
    where
      cases : (o : Option Near) → nearest_on found' fixed' vs ≡ o → option_or (new_one found fixed o) (nearest_on found fixed vs) ≡ o
      cases None e = had_none vs e
      cases (Some near) e =
          elim (stood found fixed near) as (λ b. stood found fixed near ≡ b → option_or (cond b None (Some near)) (nearest_on found fixed vs) ≡ Some near)
          [ true ↦ λ s. was_first vs near e s | false ↦ λ s. refl ] refl

  -- a node sees the new mark that is nearest, or what it saw
  sees : (t : Ancestry) (v : Node) → option_or (new_one found fixed (nearest_of t found' fixed' v)) (nearest_of t found fixed v) ≡ nearest_of t found' fixed' v
  sees t v =
      elim (knows t v) as (λ b. option_or (new_one found fixed (cond b (nearest_on found' fixed' (line t v)) None)) (cond b (nearest_on found fixed (line t v)) None)
      ≡ cond b (nearest_on found' fixed' (line t v)) None) [ true ↦ on_line (line t v) | false ↦ refl ]

-- ---- the rows that move

abbrev with_row : ℕ → NearRow → (ℕ → Node → Option Near) → ℕ → Node → Option Near
with_row k r f j w = cond ((k == j) && same_node r.node w) (Some r.near) (f j w)

abbrev move_near : ℕ → List Node → List Node → List NearRow → (ℕ → Node → Option Near) → ℕ → Node → Option Near
move_near k found fixed [] f = f
move_near k found fixed (r ∷ rows) f =
    move_near k found fixed rows (cond (stood found fixed r.near) f (with_row k r f))

over : (b : Bool) (x : Near) (y : Option Near) → cond b (Some x) (cond b None y) ≡ cond b (Some x) y
over true x y = refl
over false x y = refl

near_moved : (k : ℕ) (found fixed : List Node) (rows : List NearRow) (c : Content)
    → edited_all (near_moves k found fixed rows) c ≡ record c { near = move_near k found fixed rows c.near }
near_moved k found fixed [] c = refl
near_moved k found fixed (r ∷ rows) c =
    elim (stood found fixed r.near) as (λ b.
    edited_all (cond b (near_moves k found fixed rows) (edits.DropNearAt k r.node ∷ edits.PutNear k r.node r.near ∷ near_moves k found fixed rows)) c
    ≡ record c { near = move_near k found fixed rows (cond b c.near (with_row k r c.near)) }) [
      | true ↦ near_moved k found fixed rows c
      | false ↦
          ap (edited_all (near_moves k found fixed rows)) (λ i. record c { near = λ j w. over ((k == j) && same_node r.node w) r.near (c.near j w) i })
          ∙ near_moved k found fixed rows (record c { near = with_row k r c.near })
    ]

move_near-is : (k : ℕ) (found fixed : List Node) (rows : List NearRow) (f : ℕ → Node → Option Near) → once rows → (j : ℕ) (w : Node)
    → move_near k found fixed rows f j w ≡ cond (k == j) (option_or (new_one found fixed (row_at rows w)) (f j w)) (f j w)
move_near-is k found fixed [] f o j w = elim (k == j) as (λ t. f j w ≡ cond t (f j w) (f j w)) [ true ↦ refl | false ↦ refl ]
move_near-is k found fixed (r ∷ rows) f o j w = cases (λ h. move_near-is k found fixed rows h o.1 j w) (stood found fixed r.near) refl
  where
    gone : same_node r.node w ≡ true → row_at rows w ≡ None
    gone q = sym (ap (row_at rows) (same_true r.node w q)) ∙ o.0

    cases : ((h : ℕ → Node → Option Near) → move_near k found fixed rows h j w ≡ cond (k == j) (option_or (new_one found fixed (row_at rows w)) (h j w)) (h j w))
        → (b : Bool) → stood found fixed r.near ≡ b → move_near k found fixed rows (cond b f (with_row k r f)) j w
        ≡ cond (k == j) (option_or (new_one found fixed (row_at (r ∷ rows) w)) (f j w)) (f j w)
    cases later true e =
        later f
        ∙ ap (λ (x : Option Near). cond (k == j) x (f j w)) (elim (same_node r.node w) as (λ s. same_node r.node w ≡ s
        → option_or (new_one found fixed (row_at rows w)) (f j w) ≡ option_or (new_one found fixed (cond s (Some r.near) (row_at rows w))) (f j w)) [
          | true ↦ λ q.
              ap (λ (x : Option Near). option_or (new_one found fixed x) (f j w)) (gone q)
              ∙ ap (λ b. option_or (cond b None (Some r.near)) (f j w)) (sym e)
          | false ↦ λ q. refl
        ] refl)
    cases later false e =
        later (with_row k r f)
        ∙ elim (k == j) as (λ t. cond t (option_or (new_one found fixed (row_at rows w)) (cond (t && same_node r.node w) (Some r.near) (f j w)))
        (cond (t && same_node r.node w) (Some r.near) (f j w))
        ≡ cond t (option_or (new_one found fixed (row_at (r ∷ rows) w)) (f j w)) (f j w)) [
          | true ↦ elim (same_node r.node w) as (λ s. same_node r.node w ≡ s
              → option_or (new_one found fixed (row_at rows w)) (cond s (Some r.near) (f j w))
              ≡ option_or (new_one found fixed (cond s (Some r.near) (row_at rows w))) (f j w)) [
                | true ↦ λ q.
                    ap (λ (x : Option Near). option_or (new_one found fixed x) (Some r.near)) (gone q)
                    ∙ ap (λ b. option_or (cond b None (Some r.near)) (f j w)) (sym e)
                | false ↦ λ q. refl
              ] refl
          | false ↦ refl
        ]

pub near_moves_free : (k : ℕ) (found fixed : List Node) (rows : List NearRow) (c : Content) → k ≤ LARGEST_NUMBER → AreFree (near_moves k found fixed rows) c
near_moves_free k found fixed [] c l = tt
near_moves_free k found fixed (r ∷ rows) c l =
    elim (stood found fixed r.near) as (λ b.
    AreFree (cond b (near_moves k found fixed rows) (edits.DropNearAt k r.node ∷ edits.PutNear k r.node r.near ∷ near_moves k found fixed rows)) c) [
      | true ↦ near_moves_free k found fixed rows c l
      | false ↦ (
        l,
        (
          (
            l,
            ap (λ t. cond (t && same_node r.node r.node) None (c.near k r.node)) (eq-eqb k k refl)
                ∙ ap (λ s. cond s None (c.near k r.node)) (same_itself r.node),
          ),
          near_moves_free k found fixed rows _ l,
        ),
      )
    ]

-- ---- edits of other parts

abbrev IsOther : Edit → Type 0
IsOther (edits.DropNear k) = ⊥
IsOther (edits.DropNearAt k v) = ⊥
IsOther (edits.PutNear k v x) = ⊥
IsOther _ = ⊤

abbrev AreOther : List Edit → Type 0
AreOther [] = ⊤
AreOther (e ∷ es) = IsOther e × AreOther es

other-append : (xs ys : List Edit) → AreOther xs → AreOther ys → AreOther (xs ++ ys)
other-append [] ys h g = g
other-append (e ∷ xs) ys h g = (h.0, other-append xs ys h.1 g)

blockers_other : (k : ℕ) (bs : List ℕ) → AreOther (blocker_puts k bs)
blockers_other k [] = tt
blockers_other k (b ∷ bs) = (tt, blockers_other k bs)

affected_other : (k : ℕ) (names : List (List ℕ)) → AreOther (affected_puts k names)
affected_other k [] = tt
affected_other k (n ∷ names) = (tt, affected_other k names)

marks_other : (k : ℕ) (kind : MarkKind) (vs : List Node) → AreOther (mark_puts k kind vs)
marks_other k kind [] = tt
marks_other k kind (v ∷ vs) = (tt, marks_other k kind vs)

-- they leave the nearest marks
module _ (f : ℕ → Node → Option Near) where
  abbrev seeing : Content → Content
  seeing c = record c { near = f }

  edit_apart : (e : Edit) (c : Content) → IsOther e → edited e (seeing c) ≡ seeing (edited e c)
  edit_apart (edits.DropNear k) c h = absurd h
  edit_apart (edits.DropNearAt k v) c h = absurd h
  edit_apart (edits.PutNear k v x) c h = absurd h
  edit_apart (edits.PutMark k Found v) c h = refl
  edit_apart (edits.PutMark k Fixed v) c h = refl
  edit_apart _ c h = refl

  edits_apart : (es : List Edit) (c : Content) → AreOther es → edited_all es (seeing c) ≡ seeing (edited_all es c)
  edits_apart [] c h = refl
  edits_apart (e ∷ es) c h = ap (edited_all es) (edit_apart e c h.0) ∙ edits_apart es (edited e c) h.1

-- ---- the edits of the image

alone : (o : Option Near) → option_or o None ≡ o
alone None = refl
alone (Some x) = refl

-- the edits where all marks go and come again
abbrev pub all_moves : SetImage → List Node → List Node → List NearRow → List Edit
all_moves i found fixed rows =
    (edits.DropFields (key_of i) ∷ edits.DropBlockers (key_of i) ∷ edits.DropAffects (key_of i) ∷ edits.DropMarks (key_of i) ∷ [])
    ++ (shared_puts i ++ (mark_puts (key_of i) Found i.shared.found
    ++ (mark_puts (key_of i) Fixed i.shared.fixed ++ near_moves (key_of i) found fixed rows)))

module _ (i : SetImage) (found fixed : List Node) (rows : List NearRow) (t : Ancestry) (o : once rows)
    (are : (v : Node) → row_at rows v ≡ nearest_of t i.shared.found i.shared.fixed v) (new : same_marks i found fixed ≡ false) where
  abbrev k : ℕ
  k = key_of i

  -- what comes, but for the nearest marks
  abbrev rest : List Edit
  rest = shared_puts i ++ (mark_puts k Found i.shared.found ++ mark_puts k Fixed i.shared.fixed)

  rest_other : AreOther rest
  rest_other =
      other-append (shared_puts i) _ (tt, other-append (blocker_puts k i.shared.blockers) _ (blockers_other k i.shared.blockers) (affected_other k i.shared.affects))
      (other-append (mark_puts k Found i.shared.found) _ (marks_other k Found i.shared.found) (marks_other k Fixed i.shared.fixed))

  rest-and : (es : List Edit) → rest ++ es ≡ shared_puts i ++ (mark_puts k Found i.shared.found ++ (mark_puts k Fixed i.shared.fixed ++ es))
  rest-and es =
      append_assoc (shared_puts i) (mark_puts k Found i.shared.found ++ mark_puts k Fixed i.shared.fixed) es
      ∙ ap (λ (xs : List Edit). shared_puts i ++ xs) (append_assoc (mark_puts k Found i.shared.found) (mark_puts k Fixed i.shared.fixed) es)

  -- all edits, as they would be with all marks put anew
  abbrev anew : List Edit
  anew = (key_drops false k ++ shared_puts i) ++ all_mark_puts i rows

  anew-is : anew ≡ key_drops false k ++ (rest ++ near_puts k rows)
  anew-is =
      append_assoc (key_drops false k) (shared_puts i) (all_mark_puts i rows)
      ∙ ap (λ (xs : List Edit). key_drops false k ++ xs) (sym (rest-and (near_puts k rows)))

  abbrev drops : List Edit
  drops = edits.DropFields k ∷ edits.DropBlockers k ∷ edits.DropAffects k ∷ edits.DropMarks k ∷ []

  moves-is : all_moves i found fixed rows ≡ drops ++ (rest ++ near_moves k found fixed rows)
  moves-is = ap (λ (xs : List Edit). drops ++ xs) (sym (rest-and (near_moves k found fixed rows)))

  module _ (c : Content) where
    -- what stands under the key is gone, but for its bugs and its nearest marks
    abbrev gone : Content
    gone = without_marks k (without_affected k (without_blockers k (without_fields k c)))

    abbrev no_near : ℕ → Node → Option Near
    no_near = put_at k (λ v. None) c.near

    near_stays : (edited_all rest gone).near ≡ c.near
    near_stays = ap (λ (x : Content). x.near) (edits_apart c.near rest gone rest_other)

    moved : edited_all (all_moves i found fixed rows) c ≡ record (edited_all rest gone) { near = move_near k found fixed rows c.near }
    moved =
        ap (λ (es : List Edit). edited_all es c) moves-is
        ∙ edited_all-append rest (near_moves k found fixed rows) gone
        ∙ near_moved k found fixed rows (edited_all rest gone)
        ∙ ap (λ (f : ℕ → Node → Option Near). (let d : Content = record (edited_all rest gone) { near = move_near k found fixed rows f } in d)) near_stays

    made_anew : edited_all anew c ≡ record (edited_all rest gone) { near = put_near k rows no_near }
    made_anew =
        ap (λ (es : List Edit). edited_all es c) anew-is
        ∙ edited_all-append rest (near_puts k rows) (record gone { near = no_near })
        ∙ ap (edited_all (near_puts k rows)) (edits_apart no_near rest gone rest_other)
        ∙ near_put k rows (record (edited_all rest gone) { near = no_near })

    module _ (none : loses_none i found fixed ≡ true) (tree : c.nodes ≡ t) (near : (v : Node) → c.near k v ≡ nearest_of c.nodes found fixed v) where
      own : (j : ℕ) (w : Node) → (k == j) ≡ true → option_or (new_one found fixed (row_at rows w)) (c.near j w) ≡ option_or (row_at rows w) None
      own j w q =
          ap (λ (x : Option Near). option_or (new_one found fixed x) (c.near j w)) (are w)
          ∙ ap (option_or (new_one found fixed (nearest_of t i.shared.found i.shared.fixed w)))
          (sym (ap (λ z. c.near z w) (eqb-true k j q)) ∙ near w ∙ ap (λ (u : Ancestry). nearest_of u found fixed w) tree)
          ∙ sees found fixed i.shared.found i.shared.fixed (none_lost i found fixed none) t w
          ∙ sym (are w)
          ∙ sym (alone (row_at rows w))

      same_near : (j : ℕ) (w : Node) → move_near k found fixed rows c.near j w ≡ put_near k rows no_near j w
      same_near j w =
          move_near-is k found fixed rows c.near o j w
          ∙ elim (k == j) as (λ b. (k == j) ≡ b
          → cond b (option_or (new_one found fixed (row_at rows w)) (c.near j w)) (c.near j w)
          ≡ cond b (option_or (row_at rows w) ((cond b (λ (v : Node). None) (c.near j)) w)) ((cond b (λ (v : Node). None) (c.near j)) w))
          [ true ↦ λ q. own j w q | false ↦ λ q. refl ] refl
          ∙ sym (put_near-is k rows no_near o j w)

      as_anew : edited_all (all_moves i found fixed rows) c ≡ edited_all anew c
      as_anew =
          moved
          ∙ (λ x. record (edited_all rest gone) { near = λ j w. same_near j w x })
          ∙ sym made_anew

      pub all_made : IsGoodImage i → Stays i c → IsCleared false i (without_image false i c)
          → edited_all (all_moves i found fixed rows) c ≡ with_image i (without_image false i c)
      all_made good stays clear =
          as_anew
          ∙ subst (λ b. IsCleared b i (without_image b i c) → edited_all anew c ≡ with_image i (without_image b i c)) new
          (λ clear'. stays_new i found fixed k false refl (sym new) (key_drops false k) (key_drops false k ++ shared_puts i) refl refl c good stays clear'
          anew t refl (rows, o, are, refl) tree) clear
