-- A change of a content is the change of the desk that it shows, and the content is kept again.
use Rattle.std.proofs.Common.{◌≡◌, ℕ, Bool, true, false, cond, ◌||◌, ◌&&◌, List, [], ◌∷◌, Option, Some, None, sym, refl, ap, ◌∙◌, subst}
use Rattle.std.specs.Prelude.{filter, not, option_map, is_some, ◌==◌, ◌≢◌}
use Rattle.std.specs.Option.{option_or}
use Rattle.std.proofs.lemmas.Bool.{false≢true, eq-eqb}
use Rattle.std.proofs.lemmas.Option.{same_Some, none-some}
use Rattle.version_nodes.specs.Nodes.{Node}
use Rattle.version_nodes.specs.Trees.{Ancestry, knows, line}
use Rattle.bug_record.specs.Sets.{has, Each}
use Rattle.bug_record.specs.Desk.{IsSound}
use Rattle.bug_record.specs.Images.{numbers_of, image_with, bug_in, bug_of, AreApart, HasMember, CoverSets, put}
use Rattle.bug_record.specs.declared.bug.Member.{Member}
use Rattle.bug_record.specs.declared.bug.SetImage.{SetImage}
use Rattle.bug_record.specs.declared.command.Change.{Change}
use Rattle.store_keys.specs.Keys.{key_of, keyed_bug, IsKeyed, key_after, image_at_key, set_after}
use Rattle.store_keys.proofs.ImageLemmas.{bug_in-some, bug_in-none}
use Rattle.store_keys.proofs.KeyLemmas.{shown-some, keyed-after, bug-after}
use Rattle.version_marks.specs.Nearest.{nearest_of, nearest_on}
use Rattle.version_marks.specs.declared.near.Near.{Near}
use Rattle.table_content.specs.Content.{Content}
use Rattle.table_content.specs.View.{fields_of, image, desk_in}
use Rattle.table_content.specs.Kept.{IsKeptContent}
use Rattle.table_content.specs.Images.{is_member}
use Rattle.table_content.specs.Changes.{keeps_marks, without_images, with_images, changed, FitsContent}
use Rattle.table_content.specs.declared.edit.SetFields.{SetFields}
use Rattle.table_content.proofs.ClosedLemmas.{in_some, loses_some, no_key, no_members, no_fields, no_blockers, no_affects, no_found, no_fixed}
use Rattle.table_content.proofs.ClosedLemmas.{no_near, no_nodes, pick, put_key, put_nodes, put_members, put_fields, put_blockers, put_affects, put_found}
use Rattle.table_content.proofs.ClosedLemmas.{put_fixed, put_near}
use Rattle.table_content.proofs.KeepLemmas.{images_say, says_kept, kept_of}

-- a set that has no marks has no nearest one
pub no_near_marks : (t : Ancestry) (v : Node) → None ≡ nearest_of t [] [] v
no_near_marks t v = elim (knows t v) as (λ b. None ≡ cond b (nearest_on [] [] (line t v)) None)
    [ true ↦ sym (none_on (line t v)) | false ↦ refl ]
  where
    none_on : (vs : List Node) → nearest_on [] [] vs ≡ None
    none_on [] = refl
    none_on (w ∷ vs) = none_on vs

-- ---- bugs that the images have

pub in_some-is : (is : List SetImage) (n : ℕ) → in_some is n ≡ is_some (image_with is n)
in_some-is [] n = refl
in_some-is (i ∷ is) n =
    elim (is_member i n) as (λ t. (t || in_some is n) ≡ is_some (cond t (Some i) (image_with is n)))
    [ true ↦ refl | false ↦ in_some-is is n ]

pub in_none : (is : List SetImage) (n : ℕ) → image_with is n ≡ None → in_some is n ≡ false
in_none is n e = in_some-is is n ∙ ap is_some e

pub none_lost : (c : Content) (is : List SetImage) (k : ℕ) → in_some is k ≡ false → loses_some c is k ≡ false
none_lost c [] k e = refl
none_lost c (i ∷ is) k e =
    elim (is_member i k) as (λ t. (t || in_some is k) ≡ false
    → ((t && not (keeps_marks c i && (key_of i == k))) || loses_some c is k) ≡ false)
    [ true ↦ λ q. absurd (false≢true (sym q)) | false ↦ λ q. none_lost c is k q ] e

-- a retired key loses its marks
pub retired_lost : (c : Content) (is : List SetImage) (k : ℕ) (j : SetImage) → image_with is k ≡ Some j → (key_of j == k) ≡ false
    → loses_some c is k ≡ true
retired_lost c [] k j e q = absurd (none-some j e)
retired_lost c (i ∷ is) k j e q =
    elim (is_member i k) as (λ t. cond t (Some i) (image_with is k) ≡ Some j
    → ((t && not (keeps_marks c i && (key_of i == k))) || loses_some c is k) ≡ true) [
      | true ↦ λ h. away (keeps_marks c i) (key_of i == k) (ap (λ (z : SetImage). key_of z == k) (same_Some _ _ h) ∙ q)
      | false ↦ λ h. retired_lost c is k j h q
    ] e
  where
    away : (a b : Bool) → b ≡ false → (not (a && b) || loses_some c is k) ≡ true
    away true true h = absurd (false≢true (sym h))
    away true false h = refl
    away false b h = refl

-- what stands at k after all: what an image gives its key, nothing at a retired one, and else what
-- stood there
abbrev pub settled : {A : Type 0} → ℕ → (SetImage → A) → A → A → Option SetImage → A
settled k new gone old None = old
settled k new gone old (Some j) = cond (key_of j == k) (new j) gone

module _ {A : Type 0} (is : List SetImage) (k : ℕ) (new : SetImage → A) (gone old : A) where
  pub settle : pick k new (cond (in_some is k) gone old) (image_with is k) ≡ settled k new gone old (image_with is k)
  settle = cases (image_with is k) refl
    where
      cases : (o : Option SetImage) → image_with is k ≡ o → pick k new (cond (in_some is k) gone old) o ≡ settled k new gone old o
      cases None e = ap (λ t. cond t gone old) (in_none is k e)
      cases (Some j) e = ap (λ t. cond (key_of j == k) (new j) (cond t gone old)) (in_some-is is k ∙ ap is_some e)

  pub settle_marks : (c : Content) → pick k new (cond (loses_some c is k) gone old) (image_with is k) ≡ settled k new gone old (image_with is k)
  settle_marks c = cases (image_with is k) refl
    where
      cases : (o : Option SetImage) → image_with is k ≡ o → pick k new (cond (loses_some c is k) gone old) o ≡ settled k new gone old o
      cases None e = ap (λ t. cond t gone old) (none_lost c is k (in_none is k e))
      cases (Some j) e = elim (key_of j == k) as (λ t. (key_of j == k) ≡ t
          → cond t (new j) (cond (loses_some c is k) gone old) ≡ cond t (new j) gone)
          [ true ↦ λ q. refl | false ↦ λ q. ap (λ t. cond t gone old) (retired_lost c is k j e q) ] refl

-- ---- members

abbrev rest : List SetImage → List Member → List Member
rest is ms = filter (λ m. not (in_some is m.number)) ms

rest_all : (is : List SetImage) (ms : List Member) → ((n : ℕ) → has (numbers_of ms) n ≡ true → in_some is n ≡ false) → rest is ms ≡ ms
rest_all is [] h = refl
rest_all is (m ∷ ms) h =
    ap (λ t. cond (not t) (m ∷ rest is ms) (rest is ms)) (h m.number (ap (λ t. t || has (numbers_of ms) m.number) (eq-eqb m.number m.number refl)))
    ∙ ap (λ xs. m ∷ xs) (rest_all is ms (λ n e. h n (later (m.number == n) (has (numbers_of ms) n) e)))
  where
    later : (a b : Bool) → b ≡ true → (a || b) ≡ true
    later true b e = refl
    later false b e = e

rest_none : (is : List SetImage) (ms : List Member) → ((n : ℕ) → has (numbers_of ms) n ≡ true → in_some is n ≡ true) → rest is ms ≡ []
rest_none is [] h = refl
rest_none is (m ∷ ms) h =
    ap (λ t. cond (not t) (m ∷ rest is ms) (rest is ms)) (h m.number (ap (λ t. t || has (numbers_of ms) m.number) (eq-eqb m.number m.number refl)))
    ∙ rest_none is ms (λ n e. h n (later (m.number == n) (has (numbers_of ms) n) e))
  where
    later : (a b : Bool) → b ≡ true → (a || b) ≡ true
    later true b e = refl
    later false b e = e

-- ---- the change

-- the image of what stands at a key
abbrev image_from : Option SetFields → List Node → List Node → List ℕ → List (List ℕ) → List Member → Option SetImage
image_from fields found fixed blockers affects ms = option_map (λ (f : SetFields). record {
  shared = record {
    «package» = f.«package»;
    severity = f.severity;
    closed = f.closed;
    forwarded = f.forwarded;
    owner = f.owner;
    tags = f.tags;
    affects = affects;
    found = found;
    fixed = fixed;
    blockers = blockers;
    archived = f.archived;
  };
  members = ms;
}) fields

module _ (c : Content) (is : List SetImage) (kept : IsKeptContent c) (apart : AreApart is) (some : Each HasMember is)
    (whole : CoverSets (desk_in c) is) where
  abbrev after : Content
  after = with_images is (without_images c is c)

  -- of the bugs of a set the images have all or none
  together : (k n m : ℕ) (i : SetImage) → image c k ≡ Some i → is_member i n ≡ true → is_member i m ≡ true
      → in_some is n ≡ true → in_some is m ≡ true
  together k n m i e own other h = cases (image_with is m) refl
    where
      given_one : (o : Option SetImage) → image_with is n ≡ o → bug_in is n ≢ None
      given_one None q = absurd (false≢true (sym (in_none is n q) ∙ h))
      given_one (Some j) q = λ z. let b = bug_in-some is n j q in none-some b.0 (sym z ∙ b.1)

      cases : (o : Option SetImage) → image_with is m ≡ o → in_some is m ≡ true
      cases None q = absurd (let x = shown-some c.key (image c) kept.keyed k n i e own in
          whole n m (bug_of i x.0) x.1 (given_one (image_with is n) refl) other (bug_in-none is m q))
      cases (Some j) q = in_some-is is m ∙ ap is_some q

  key_is : (n : ℕ) → after.key n ≡ key_after is c.key n
  key_is n = put_key is (without_images c is c) apart n
      ∙ ap (option_or (option_map key_of (image_with is n))) (no_key c is c n)
      ∙ cases (image_with is n) refl
    where
      cases : (o : Option SetImage) → image_with is n ≡ o
          → option_or (option_map key_of o) (cond (in_some is n) None (c.key n)) ≡ option_or (option_map key_of o) (c.key n)
      cases None q = ap (λ t. cond t None (c.key n)) (in_none is n q)
      cases (Some j) q = refl

  module _ (k : ℕ) where
    fields_is : after.fields k ≡ settled k (λ i. Some (fields_of i.shared)) None (c.fields k) (image_with is k)
    fields_is = put_fields is (without_images c is c) apart some k
        ∙ ap (λ x. pick k (λ i. Some (fields_of i.shared)) x (image_with is k)) (no_fields c is c k)
        ∙ settle is k (λ i. Some (fields_of i.shared)) None (c.fields k)

    blockers_is : after.blockers k ≡ settled k (λ i. i.shared.blockers) [] (c.blockers k) (image_with is k)
    blockers_is = put_blockers is (without_images c is c) apart some k
        ∙ ap (λ x. pick k (λ (i : SetImage). i.shared.blockers) x (image_with is k)) (no_blockers c is c k)
        ∙ settle is k (λ (i : SetImage). i.shared.blockers) [] (c.blockers k)

    affects_is : after.affects k ≡ settled k (λ i. i.shared.affects) [] (c.affects k) (image_with is k)
    affects_is = put_affects is (without_images c is c) apart some k
        ∙ ap (λ x. pick k (λ (i : SetImage). i.shared.affects) x (image_with is k)) (no_affects c is c k)
        ∙ settle is k (λ (i : SetImage). i.shared.affects) [] (c.affects k)

    found_is : after.found k ≡ settled k (λ i. i.shared.found) [] (c.found k) (image_with is k)
    found_is = put_found is (without_images c is c) apart some k
        ∙ ap (λ x. pick k (λ (i : SetImage). i.shared.found) x (image_with is k)) (no_found c is c k)
        ∙ settle_marks is k (λ (i : SetImage). i.shared.found) [] (c.found k) c

    fixed_is : after.fixed k ≡ settled k (λ i. i.shared.fixed) [] (c.fixed k) (image_with is k)
    fixed_is = put_fixed is (without_images c is c) apart some k
        ∙ ap (λ x. pick k (λ (i : SetImage). i.shared.fixed) x (image_with is k)) (no_fixed c is c k)
        ∙ settle_marks is k (λ (i : SetImage). i.shared.fixed) [] (c.fixed k) c

    near_is : after.near k
        ≡ settled k (λ i. nearest_of c.nodes i.shared.found i.shared.fixed) (λ v. None) (c.near k) (image_with is k)
    near_is = put_near is (without_images c is c) apart some k
        ∙ ap (λ (t : Ancestry). pick k (λ (i : SetImage). nearest_of t i.shared.found i.shared.fixed) ((without_images c is c).near k)
        (image_with is k)) (no_nodes c is c)
        ∙ ap (λ (x : Node → Option Near). pick k (λ (i : SetImage). nearest_of c.nodes i.shared.found i.shared.fixed) x (image_with is k))
        (no_near c is c k)
        ∙ settle_marks is k (λ (i : SetImage). nearest_of c.nodes i.shared.found i.shared.fixed) (λ v. None) (c.near k) c

    members_is : after.members k ≡ pick k (λ i. i.members) (rest is (c.members k)) (image_with is k)
    members_is = put_members is (without_images c is c) apart some k
        ∙ ap (λ x. pick k (λ (i : SetImage). i.members) x (image_with is k)) (no_members c is c k)

    -- the bugs of a set that the images don't touch stay, and those of one that they touch go
    members_stay : (f : SetFields) → c.fields k ≡ Some f → image_with is k ≡ None → rest is (c.members k) ≡ c.members k
    members_stay f e none = rest_all is (c.members k) (λ n h. not_in n h (in_some is n) refl)
      where
        here : (i : SetImage) × (image c k ≡ Some i) × (i.members ≡ c.members k)
        here = (
          _,
          ap (λ (o : Option SetFields). image_from o (c.found k) (c.fixed k) (c.blockers k) (c.affects k) (c.members k)) e,
          refl,
        )

        not_in : (n : ℕ) → has (numbers_of (c.members k)) n ≡ true → (t : Bool) → in_some is n ≡ t → in_some is n ≡ false
        not_in n h true q = absurd (false≢true (sym (in_none is k none)
            ∙ together k n k here.0 here.1 h (kept.keyed.own k here.0 here.1) q))
        not_in n h false q = q

    pub members_go : (j : SetImage) → image_with is k ≡ Some j → rest is (c.members k) ≡ []
    members_go j e = cases (c.fields k) refl
      where
        cases : (o : Option SetFields) → c.fields k ≡ o → rest is (c.members k) ≡ []
        cases None q = ap (rest is) (kept.no_members k q)
        cases (Some f) q = rest_none is (c.members k) (λ n h.
            let here : image c k ≡ Some _ =
            ap (λ (o : Option SetFields). image_from o (c.found k) (c.fixed k) (c.blockers k) (c.affects k) (c.members k)) q in
            together k k n _ here (kept.keyed.own k _ here) h (in_some-is is k ∙ ap is_some e))

    image_is : image after k ≡ set_after is (image c) k
    image_is =
        ap (λ (o : Option SetFields). image_from o (after.found k) (after.fixed k) (after.blockers k) (after.affects k) (after.members k)) fields_is
        ∙ ap (λ (x : List Node). image_from (settled k (λ i. Some (fields_of i.shared)) None (c.fields k) (image_with is k)) x (after.fixed k)
        (after.blockers k) (after.affects k) (after.members k)) found_is
        ∙ ap (λ (x : List Node). image_from (settled k (λ i. Some (fields_of i.shared)) None (c.fields k) (image_with is k))
        (settled k (λ i. i.shared.found) [] (c.found k) (image_with is k)) x (after.blockers k) (after.affects k) (after.members k)) fixed_is
        ∙ ap (λ (x : List ℕ). image_from (settled k (λ i. Some (fields_of i.shared)) None (c.fields k) (image_with is k))
        (settled k (λ i. i.shared.found) [] (c.found k) (image_with is k)) (settled k (λ i. i.shared.fixed) [] (c.fixed k) (image_with is k))
        x (after.affects k) (after.members k)) blockers_is
        ∙ ap (λ (x : List (List ℕ)). image_from (settled k (λ i. Some (fields_of i.shared)) None (c.fields k) (image_with is k))
        (settled k (λ i. i.shared.found) [] (c.found k) (image_with is k)) (settled k (λ i. i.shared.fixed) [] (c.fixed k) (image_with is k))
        (settled k (λ i. i.shared.blockers) [] (c.blockers k) (image_with is k)) x (after.members k)) affects_is
        ∙ ap (λ (x : List Member). image_from (settled k (λ i. Some (fields_of i.shared)) None (c.fields k) (image_with is k))
        (settled k (λ i. i.shared.found) [] (c.found k) (image_with is k)) (settled k (λ i. i.shared.fixed) [] (c.fixed k) (image_with is k))
        (settled k (λ i. i.shared.blockers) [] (c.blockers k) (image_with is k))
        (settled k (λ i. i.shared.affects) [] (c.affects k) (image_with is k)) x) members_is
        ∙ cases (image_with is k) refl
      where
        cases : (o : Option SetImage) → image_with is k ≡ o
            → image_from (settled k (λ i. Some (fields_of i.shared)) None (c.fields k) o) (settled k (λ i. i.shared.found) [] (c.found k) o)
            (settled k (λ i. i.shared.fixed) [] (c.fixed k) o) (settled k (λ i. i.shared.blockers) [] (c.blockers k) o)
            (settled k (λ i. i.shared.affects) [] (c.affects k) o) (pick k (λ i. i.members) (rest is (c.members k)) o)
            ≡ image_at_key k (image c k) o
        cases None e = there (c.fields k) refl
          where
            there : (o : Option SetFields) → c.fields k ≡ o
                → image_from o (c.found k) (c.fixed k) (c.blockers k) (c.affects k) (rest is (c.members k))
                ≡ image_from o (c.found k) (c.fixed k) (c.blockers k) (c.affects k) (c.members k)
            there None q = refl
            there (Some f) q =
                ap (λ (x : List Member). image_from (Some f) (c.found k) (c.fixed k) (c.blockers k) (c.affects k) x) (members_stay f q e)
        cases (Some j) e = elim (key_of j == k) as (λ t.
            image_from (cond t (Some (fields_of j.shared)) None) (cond t j.shared.found []) (cond t j.shared.fixed [])
            (cond t j.shared.blockers []) (cond t j.shared.affects []) (cond t j.members (rest is (c.members k))) ≡ cond t (Some j) None)
            [ true ↦ refl | false ↦ refl ]

  keys_are : after.key ≡ key_after is c.key
  keys_are = λ i. λ n. key_is n i

  pub images_are : image after ≡ set_after is (image c)
  images_are = λ i. λ k. image_is k i

  nodes_are : after.nodes ≡ c.nodes
  nodes_are = put_nodes is (without_images c is c) ∙ no_nodes c is c

  pub bug_is : (n : ℕ) → keyed_bug after.key (image after) n ≡ option_or (bug_in is n) ((desk_in c).bug n)
  bug_is n =
      ap (λ (key : ℕ → Option ℕ). keyed_bug key (image after) n) keys_are
      ∙ ap (λ (set : ℕ → Option SetImage). keyed_bug (key_after is c.key) set n) images_are
      ∙ bug-after c.key (image c) kept.keyed is c.nodes c.next apart whole n

  pub desk_is : (next : ℕ) → desk_in (record after { next = next })
      ≡ record { bug = λ n. option_or (bug_in is n) ((desk_in c).bug n); tree = c.nodes; next = next }
  desk_is next = λ i. record { bug = λ n. bug_is n i; tree = nodes_are i; next = next }

  keyed_is : IsKeyed after.key (image after)
  keyed_is =
      subst (λ (key : ℕ → Option ℕ). IsKeyed key (image after)) (sym keys_are)
      (subst (λ (set : ℕ → Option SetImage). IsKeyed (key_after is c.key) set) (sym images_are)
      (keyed-after c.key (image c) kept.keyed is c.nodes c.next apart whole))

  -- where no set is, nothing is said of one
  module _ {A : Type 0} (k : ℕ) (f : Content → A) (new : SetImage → A) (gone : A)
      (is_f : f after ≡ settled k new gone (f c) (image_with is k)) (was : c.fields k ≡ None → f c ≡ gone) where
    empty : after.fields k ≡ None → f after ≡ gone
    empty e = is_f ∙ cases (image_with is k) refl (sym (fields_is k) ∙ e)
      where
        cases : (o : Option SetImage) → image_with is k ≡ o → settled k (λ i. Some (fields_of i.shared)) None (c.fields k) o ≡ None
            → settled k new gone (f c) o ≡ gone
        cases None q h = was h
        cases (Some j) q h =
            elim (key_of j == k) as (λ t. cond t (Some (fields_of j.shared)) None ≡ None → cond t (new j) gone ≡ gone)
            [ true ↦ λ z. absurd (none-some (fields_of j.shared) (sym z)) | false ↦ λ z. refl ] h

  no_members_left : (k : ℕ) → after.fields k ≡ None → after.members k ≡ []
  no_members_left k e = members_is k ∙ cases (image_with is k) refl (sym (fields_is k) ∙ e)
    where
      cases : (o : Option SetImage) → image_with is k ≡ o → settled k (λ i. Some (fields_of i.shared)) None (c.fields k) o ≡ None
          → pick k (λ i. i.members) (rest is (c.members k)) o ≡ []
      cases None q h = ap (rest is) (kept.no_members k h)
      cases (Some j) q h =
          elim (key_of j == k) as (λ t. cond t (Some (fields_of j.shared)) None ≡ None → cond t j.members (rest is (c.members k)) ≡ [])
          [ true ↦ λ z. absurd (none-some (fields_of j.shared) (sym z)) | false ↦ λ z. members_go k j q ] h

  near_right : (k : ℕ) (v : Node) → after.near k v ≡ nearest_of after.nodes (after.found k) (after.fixed k) v
  near_right k v =
      ap (λ (f : Node → Option Near). f v) (near_is k)
      ∙ cases (image_with is k)
      ∙ sym (ap (λ (t : Ancestry). nearest_of t (after.found k) (after.fixed k) v) nodes_are
      ∙ ap (λ (x : List Node). nearest_of c.nodes x (after.fixed k) v) (found_is k)
      ∙ ap (λ (x : List Node). nearest_of c.nodes (settled k (λ i. i.shared.found) [] (c.found k) (image_with is k)) x v) (fixed_is k))
    where
      cases : (o : Option SetImage) → settled k (λ i. nearest_of c.nodes i.shared.found i.shared.fixed) (λ v. None) (c.near k) o v
          ≡ nearest_of c.nodes (settled k (λ i. i.shared.found) [] (c.found k) o) (settled k (λ i. i.shared.fixed) [] (c.fixed k) o) v
      cases None = kept.near k v
      cases (Some j) = elim (key_of j == k) as (λ t. cond t (nearest_of c.nodes j.shared.found j.shared.fixed) (λ v. None) v
          ≡ nearest_of c.nodes (cond t j.shared.found []) (cond t j.shared.fixed []) v)
          [ true ↦ refl | false ↦ no_near_marks c.nodes v ]

  pub kept_is : (next : ℕ) → IsSound (desk_in (record after { next = next })) → IsKeptContent (record after { next = next })
  kept_is next sound = let told = says_kept (record after { next = next }) c (images_say c is next) (kept_of c kept) in record {
    keyed = keyed_is;
    sound = sound;
    no_members = no_members_left;
    no_found = λ k. empty k (λ x. x.found k) (λ i. i.shared.found) [] (found_is k) (kept.no_found k);
    no_fixed = λ k. empty k (λ x. x.fixed k) (λ i. i.shared.fixed) [] (fixed_is k) (kept.no_fixed k);
    no_blockers = λ k. empty k (λ x. x.blockers k) (λ i. i.shared.blockers) [] (blockers_is k) (kept.no_blockers k);
    no_affects = λ k. empty k (λ x. x.affects k) (λ i. i.shared.affects) [] (affects_is k) (kept.no_affects k);
    near = near_right;
    no_outcomes = told.no_outcomes;
    places = told.places;
    no_numbers = told.no_numbers;
    good = told.good;
  }

pub change_desk : (c : Content) (change : Change) → IsKeptContent c → FitsContent c change
    → desk_in (changed c change) ≡ put (desk_in c) change
change_desk c change kept fits = desk_is c change.images kept fits.apart fits.members fits.fits.whole change.next

pub change_kept : (c : Content) (change : Change) → IsKeptContent c → FitsContent c change → IsKeptContent (changed c change)
change_kept c change kept fits = kept_is c change.images kept fits.apart fits.members fits.fits.whole change.next
    (subst IsSound (sym (change_desk c change kept fits)) fits.fits.sound)
