-- When its turn comes, an image of a change is good, and its rows are cleared.
use Rattle.std.proofs.Common.{◌≡◌, ◌<◌, ◌≤◌, ℕ, Bool, true, false, cond, ◌||◌, ◌&&◌, List, [], ◌∷◌, ◌++◌, Option, Some, None, sym, refl, ap, ◌∙◌, subst, arith}
use Rattle.std.specs.Prelude.{not, option_map, is_some, ◌==◌, ◌≢◌}
use Rattle.std.specs.Option.{option_or, option_and_then}
use Rattle.std.specs.Cmp.Lexicographic.{pointwise}
use Rattle.std.proofs.lemmas.Bool.{false≢true, eq-eqb}
use Rattle.base_words.specs.declared.named.TheConstants.{AFTER_LARGEST, LARGEST_NUMBER}
use Rattle.version_nodes.specs.Nodes.{Node, same_node}
use Rattle.version_nodes.specs.Trees.{Ancestry}
use Rattle.version_nodes.proofs.NodeLemmas.{same_true}
use Rattle.bug_record.specs.Sets.{Each}
use Rattle.bug_record.specs.Images.{image_with, bug_of, member_at, AreApart, HasMember, put}
use Rattle.bug_record.specs.declared.bug.Bug.{Bug}
use Rattle.bug_record.specs.declared.bug.Member.{Member}
use Rattle.bug_record.specs.declared.bug.SetImage.{SetImage}
use Rattle.bug_record.specs.declared.command.Change.{Change}
use Rattle.store_keys.specs.Keys.{key_of}
use Rattle.store_keys.proofs.ImageLemmas.{bug_in-image_with, bug_in-none, member-has}
use Rattle.version_marks.specs.Nearest.{nearest_of}
use Rattle.version_marks.specs.declared.near.Near.{Near}
use Rattle.table_content.specs.Content.{Content}
use Rattle.table_content.specs.View.{fields_of, desk_in}
use Rattle.table_content.specs.Kept.{IsKeptContent}
use Rattle.table_content.specs.Images.{is_member, loses_marks, IsGoodImage, IsCleared, MarksStand}
use Rattle.table_content.specs.Changes.{keeps_marks, with_images, cleared_for, FitsContent}
use Rattle.table_content.proofs.ClosedLemmas.{in_some, loses_some, no_key, no_members, no_fields, no_blockers, no_affects, no_found, no_fixed}
use Rattle.table_content.proofs.ClosedLemmas.{no_near, no_nodes, pick, put_key, put_nodes, put_members, put_fields, put_blockers, put_affects, put_found}
use Rattle.table_content.proofs.ClosedLemmas.{put_fixed, put_near, own_key, apart_none}
use Rattle.table_content.proofs.ChangeLemmas.{in_some-is, in_none, none_lost, members_go}

-- ---- lists of images in two parts

split-in : (xs ys : List SetImage) (n : ℕ) → in_some (xs ++ ys) n ≡ (in_some xs n || in_some ys n)
split-in [] ys n = refl
split-in (x ∷ xs) ys n = ap (λ t. is_member x n || t) (split-in xs ys n) ∙ group (is_member x n) (in_some xs n) (in_some ys n)
  where
    group : (a b c : Bool) → (a || (b || c)) ≡ ((a || b) || c)
    group true b c = refl
    group false b c = refl

split-lost : (c : Content) (xs ys : List SetImage) (k : ℕ) → loses_some c (xs ++ ys) k ≡ (loses_some c xs k || loses_some c ys k)
split-lost c [] ys k = refl
split-lost c (x ∷ xs) ys k =
    ap (λ t. loses_marks (keeps_marks c x) x k || t) (split-lost c xs ys k)
    ∙ group (loses_marks (keeps_marks c x) x k) (loses_some c xs k) (loses_some c ys k)
  where
    group : (a b c : Bool) → (a || (b || c)) ≡ ((a || b) || c)
    group true b c = refl
    group false b c = refl

-- a bug that is in none of the images
none_in : (is : List SetImage) (n : ℕ) → in_some is n ≡ false → image_with is n ≡ None
none_in is n e = cases (image_with is n) (sym (in_some-is is n) ∙ e)
  where
    cases : (o : Option SetImage) → is_some o ≡ false → o ≡ None
    cases None h = refl
    cases (Some j) h = absurd (false≢true (sym h))

-- of two tests of which one holds not
or_false : (a b : Bool) → (a || b) ≡ false → (a ≡ false) × (b ≡ false)
or_false true b h = absurd (false≢true (sym h))
or_false false b h = (refl, h)

each_front : (P : SetImage → Type 0) (xs ys : List SetImage) → Each P (xs ++ ys) → Each P xs
each_front P [] ys h = tt
each_front P (x ∷ xs) ys h = (h.0, each_front P xs ys h.1)

each_here : (P : SetImage → Type 0) (xs : List SetImage) (i : SetImage) (ys : List SetImage) → Each P (xs ++ i ∷ ys) → P i
each_here P [] i ys h = h.0
each_here P (x ∷ xs) i ys h = each_here P xs i ys h.1

apart_front : (xs ys : List SetImage) → AreApart (xs ++ ys) → AreApart xs
apart_front [] ys h = tt
apart_front (x ∷ xs) ys h = (
  λ n e. bug_in-none xs n (none_in xs n (or_false (in_some xs n) (in_some ys n)
      (sym (split-in xs ys n) ∙ in_none (xs ++ ys) n (apart_none (xs ++ ys) n (h.0 n e)))).0),
  apart_front xs ys h.1,
)

module _ (i : SetImage) (n : ℕ) (own : is_member i n ≡ true) where
  -- a bug of the image is in none before it, and in none after it
  not_before : (xs ys : List SetImage) → AreApart (xs ++ i ∷ ys) → in_some xs n ≡ false
  not_before [] ys h = refl
  not_before (x ∷ xs) ys h = elim (is_member x n) as (λ t. is_member x n ≡ t → (t || in_some xs n) ≡ false) [
    | true ↦ λ e. absurd (false≢true (
        sym (in_none (xs ++ i ∷ ys) n (apart_none (xs ++ i ∷ ys) n (h.0 n e)))
        ∙ split-in xs (i ∷ ys) n
        ∙ ap (λ t. in_some xs n || (t || in_some ys n)) own
        ∙ last (in_some xs n)))
    | false ↦ λ e. not_before xs ys h.1
  ] refl
    where
      last : (a : Bool) → (a || true) ≡ true
      last true = refl
      last false = refl

  not_after : (xs ys : List SetImage) → AreApart (xs ++ i ∷ ys) → in_some ys n ≡ false
  not_after [] ys h = in_none ys n (apart_none ys n (h.0 n own))
  not_after (x ∷ xs) ys h = not_after xs ys h.1

  it_is : (xs ys : List SetImage) → AreApart (xs ++ i ∷ ys) → image_with (xs ++ i ∷ ys) n ≡ Some i
  it_is [] ys h = ap (λ t. cond t (Some i) (image_with ys n)) own
  it_is (x ∷ xs) ys h =
      ap (λ t. cond t (Some x) (image_with (xs ++ i ∷ ys) n))
      (or_false (is_member x n) (in_some xs n) (not_before (x ∷ xs) ys h)).0 ∙ it_is xs ys h.1

same_lists : (xs ys : List Node) → pointwise same_node xs ys ≡ true → xs ≡ ys
same_lists [] [] h = refl
same_lists [] (y ∷ ys) h = absurd (false≢true h)
same_lists (x ∷ xs) [] h = absurd (false≢true h)
same_lists (x ∷ xs) (y ∷ ys) h =
    let both = both_true (same_node x y) (pointwise same_node xs ys) h in
    ap (λ (z : Node). z ∷ xs) (same_true x y both.0) ∙ ap (λ zs. y ∷ zs) (same_lists xs ys both.1)
  where
    both_true : (a b : Bool) → (a && b) ≡ true → (a ≡ true) × (b ≡ true)
    both_true true b h = (refl, h)
    both_true false b h = absurd (false≢true h)

-- ---- the image's turn

module _ (c : Content) (change : Change) (kept : IsKeptContent c) (fits : FitsContent c change)
    (xs : List SetImage) (i : SetImage) (ys : List SetImage) (are : change.images ≡ xs ++ i ∷ ys) where
  apart : AreApart (xs ++ i ∷ ys)
  apart = subst AreApart are fits.apart

  some : Each HasMember (xs ++ i ∷ ys)
  some = subst (λ (is : List SetImage). Each HasMember is) are fits.members

  own : is_member i (key_of i) ≡ true
  own = own_key i (each_here HasMember xs i ys some)

  -- the image of each of its bugs
  image_is : (n : ℕ) → is_member i n ≡ true → image_with change.images n ≡ Some i
  image_is n e = ap (λ (is : List SetImage). image_with is n) are ∙ it_is i n e xs ys apart

  in_change : (n : ℕ) → is_member i n ≡ true → in_some change.images n ≡ true
  in_change n e = in_some-is change.images n ∙ ap is_some (image_is n e)

  shown : (n : ℕ) → is_member i n ≡ true → (x : Member) × ((put (desk_in c) change).bug n ≡ Some (bug_of i x))
  shown n e = let x = member-has i.members n e in (
    x.0,
    ap (λ (o : Option Bug). option_or o ((desk_in c).bug n)) (bug_in-image_with change.images n
        ∙ ap (option_and_then (λ (j : SetImage). option_map (bug_of j) (member_at j.members n))) (image_is n e)
        ∙ ap (option_map (bug_of i)) x.1),
  )

  in_range : (n : ℕ) (b : Bug) → (put (desk_in c) change).bug n ≡ Some b → n ≤ LARGEST_NUMBER
  in_range n b e =
      let low = (fits.fits.sound.in_range n b e).1 in
      let top = fits.fits.sound.next_in_range.1 in
      below n change.next low top
    where
      below : (n next : ℕ) → n < next → next ≤ AFTER_LARGEST → n ≤ LARGEST_NUMBER
      below n next a b = omega (arith, a, b)

  pub good : IsGoodImage i
  good =
      let sound = fits.fits.sound in
      let x = shown (key_of i) own in
      let texts = (sound.texts (key_of i) (bug_of i x.0) x.1).shared in
      let blockers = sound.blockers (key_of i) (bug_of i x.0) x.1 in
      record {
        some = each_here HasMember xs i ys some;
        numbers = λ n e. let y = shown n e in in_range n (bug_of i y.0) y.1;
        blocker_numbers = λ n e. bounded n ((put (desk_in c) change).bug n) refl (blockers.there n e);
        members = sound.ascending (key_of i) (bug_of i x.0) x.1;
        blockers = blockers.ascending;
        tags = texts.tags;
        affects = texts.affects;
        found = texts.found;
        fixed = texts.fixed;
      }
    where
      bounded : (n : ℕ) (o : Option Bug) → (put (desk_in c) change).bug n ≡ o → o ≢ None → n ≤ LARGEST_NUMBER
      bounded n None e h = absurd (h refl)
      bounded n (Some b) e h = in_range n b e

  abbrev cleared : Content
  cleared = cleared_for c change

  abbrev turn : Content
  turn = with_images xs cleared

  front : AreApart xs
  front = apart_front xs (i ∷ ys) apart

  front_some : Each HasMember xs
  front_some = each_front HasMember xs (i ∷ ys) some

  -- the images before it put nothing under its bugs
  not_put : (n : ℕ) → is_member i n ≡ true → image_with xs n ≡ None
  not_put n e = none_in xs n (not_before i n e xs ys apart)

  lost_here : loses_some c change.images (key_of i) ≡ not (keeps_marks c i)
  lost_here =
      ap (λ (is : List SetImage). loses_some c is (key_of i)) are
      ∙ split-lost c xs (i ∷ ys) (key_of i)
      ∙ ap (λ t. t || loses_some c (i ∷ ys) (key_of i)) (none_lost c xs (key_of i) (not_before i (key_of i) own xs ys apart))
      ∙ ap (λ t. loses_marks (keeps_marks c i) i (key_of i) || t) (none_lost c ys (key_of i) (not_after i (key_of i) own xs ys apart))
      ∙ ap (λ t. (t && not (keeps_marks c i && (key_of i == key_of i))) || false) own
      ∙ ap (λ t. not (keeps_marks c i && t) || false) (eq-eqb (key_of i) (key_of i) refl)
      ∙ last (keeps_marks c i)
    where
      last : (a : Bool) → (not (a && true) || false) ≡ not a
      last true = refl
      last false = refl

  nodes_stay : turn.nodes ≡ c.nodes
  nodes_stay = put_nodes xs cleared ∙ no_nodes c change.images c

  found_is : turn.found (key_of i) ≡ cond (not (keeps_marks c i)) [] (c.found (key_of i))
  found_is =
      put_found xs cleared front front_some (key_of i)
      ∙ ap (pick (key_of i) (λ (j : SetImage). j.shared.found) (cleared.found (key_of i))) (not_put (key_of i) own)
      ∙ no_found c change.images c (key_of i)
      ∙ ap (λ t. cond t [] (c.found (key_of i))) lost_here

  fixed_is : turn.fixed (key_of i) ≡ cond (not (keeps_marks c i)) [] (c.fixed (key_of i))
  fixed_is =
      put_fixed xs cleared front front_some (key_of i)
      ∙ ap (pick (key_of i) (λ (j : SetImage). j.shared.fixed) (cleared.fixed (key_of i))) (not_put (key_of i) own)
      ∙ no_fixed c change.images c (key_of i)
      ∙ ap (λ t. cond t [] (c.fixed (key_of i))) lost_here

  near_is : turn.near (key_of i) ≡ cond (not (keeps_marks c i)) (λ v. None) (c.near (key_of i))
  near_is =
      put_near xs cleared front front_some (key_of i)
      ∙ ap (pick (key_of i) (λ (j : SetImage). nearest_of cleared.nodes j.shared.found j.shared.fixed) (cleared.near (key_of i)))
      (not_put (key_of i) own)
      ∙ no_near c change.images c (key_of i)
      ∙ ap (λ t. cond t (λ v. None) (c.near (key_of i))) lost_here

  marks_stand : MarksStand (keeps_marks c i) i turn
  marks_stand = cases (keeps_marks c i) refl
    where
      cases : (t : Bool) → keeps_marks c i ≡ t → MarksStand t i turn
      cases true e =
          let two = both (pointwise same_node (c.found (key_of i)) i.shared.found) (pointwise same_node (c.fixed (key_of i)) i.shared.fixed) e in
          let found = same_lists (c.found (key_of i)) i.shared.found two.0 in
          let fixed = same_lists (c.fixed (key_of i)) i.shared.fixed two.1 in
          record {
            found = found_is ∙ ap (λ t. cond (not t) [] (c.found (key_of i))) e ∙ found;
            fixed = fixed_is ∙ ap (λ t. cond (not t) [] (c.fixed (key_of i))) e ∙ fixed;
            near = λ v.
                ap (λ (f : Node → Option Near). f v) (near_is ∙ ap (λ t. cond (not t) (λ v. None) (c.near (key_of i))) e)
                ∙ kept.near (key_of i) v
                ∙ ap (λ (x : List Node). nearest_of c.nodes x (c.fixed (key_of i)) v) found
                ∙ ap (λ (x : List Node). nearest_of c.nodes i.shared.found x v) fixed
                ∙ ap (λ (t : Ancestry). nearest_of t i.shared.found i.shared.fixed v) (sym nodes_stay);
          }
        where
          both : (a b : Bool) → (a && b) ≡ true → (a ≡ true) × (b ≡ true)
          both true b h = (refl, h)
          both false b h = absurd (false≢true h)
      cases false e = record {
        found = found_is ∙ ap (λ t. cond (not t) [] (c.found (key_of i))) e;
        fixed = fixed_is ∙ ap (λ t. cond (not t) [] (c.fixed (key_of i))) e;
        near = λ v. ap (λ (f : Node → Option Near). f v) (near_is ∙ ap (λ t. cond (not t) (λ v. None) (c.near (key_of i))) e);
      }

  pub ready : IsCleared (keeps_marks c i) i turn
  ready = record {
    keys = λ n e.
        put_key xs cleared front n
        ∙ ap (λ (o : Option SetImage). option_or (option_map key_of o) (cleared.key n)) (not_put n e)
        ∙ no_key c change.images c n
        ∙ ap (λ t. cond t None (c.key n)) (in_change n e);
    members =
        put_members xs cleared front front_some (key_of i)
        ∙ ap (pick (key_of i) (λ (j : SetImage). j.members) (cleared.members (key_of i))) (not_put (key_of i) own)
        ∙ no_members c change.images c (key_of i)
        ∙ members_go c change.images kept fits.apart fits.members fits.fits.whole (key_of i) i (image_is (key_of i) own);
    fields =
        put_fields xs cleared front front_some (key_of i)
        ∙ ap (pick (key_of i) (λ (j : SetImage). Some (fields_of j.shared)) (cleared.fields (key_of i)))
        (not_put (key_of i) own)
        ∙ no_fields c change.images c (key_of i)
        ∙ ap (λ t. cond t None (c.fields (key_of i))) (in_change (key_of i) own);
    blockers =
        put_blockers xs cleared front front_some (key_of i)
        ∙ ap (pick (key_of i) (λ (j : SetImage). j.shared.blockers) (cleared.blockers (key_of i))) (not_put (key_of i) own)
        ∙ no_blockers c change.images c (key_of i)
        ∙ ap (λ t. cond t [] (c.blockers (key_of i))) (in_change (key_of i) own);
    affects =
        put_affects xs cleared front front_some (key_of i)
        ∙ ap (pick (key_of i) (λ (j : SetImage). j.shared.affects) (cleared.affects (key_of i))) (not_put (key_of i) own)
        ∙ no_affects c change.images c (key_of i)
        ∙ ap (λ t. cond t [] (c.affects (key_of i))) (in_change (key_of i) own);
    marks = marks_stand;
  }
