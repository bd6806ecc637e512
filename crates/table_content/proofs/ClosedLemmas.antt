-- The content without and with images, each field by itself.
use Rattle.std.proofs.Common.{◌≡◌, ℕ, Bool, true, false, cond, ◌||◌, List, [], ◌∷◌, Option, Some, None, sym, refl, ap, ◌∙◌}
use Rattle.std.specs.Prelude.{filter, not, option_map, ◌==◌, ◌≢◌}
use Rattle.std.specs.List.{list_any}
use Rattle.std.specs.Option.{option_or}
use Rattle.std.proofs.lemmas.Bool.{false≢true, eqb-true, eq-eqb}
use Rattle.std.proofs.lemmas.Option.{none-some}
use Rattle.bug_record.specs.Sets.{has, Each}
use Rattle.bug_record.specs.Images.{numbers_of, image_with, bug_in, AreApart, HasMember}
use Rattle.bug_record.specs.declared.bug.Member.{Member}
use Rattle.bug_record.specs.declared.bug.SetImage.{SetImage}
use Rattle.store_keys.specs.Keys.{key_of, first_number}
use Rattle.store_keys.proofs.ImageLemmas.{none_from, bug_in-some}
use Rattle.version_marks.specs.Nearest.{nearest_of}
use Rattle.table_content.specs.Content.{Content}
use Rattle.table_content.specs.Edits.{put_at}
use Rattle.table_content.specs.View.{fields_of}
use Rattle.table_content.specs.Images.{is_member, loses_marks, without_image, with_image}
use Rattle.table_content.specs.Changes.{keeps_marks, without_images, with_images}
use Rattle.table_content.proofs.EditLemmas.{first_or_later, filter_all, filter_twice}

-- ---- without images

-- whether the bug is in one of the images
abbrev pub in_some : List SetImage → ℕ → Bool
in_some is n = list_any (λ i. is_member i n) is

abbrev pub loses_some : Content → List SetImage → ℕ → Bool
loses_some c is k = list_any (λ i. loses_marks (keeps_marks c i) i k) is

module _ (old : Content) where
  pub no_key : (is : List SetImage) (c : Content) (n : ℕ) → (without_images old is c).key n ≡ cond (in_some is n) None (c.key n)
  no_key [] c n = refl
  no_key (i ∷ is) c n =
      no_key is (without_image (keeps_marks old i) i c) n ∙ first_or_later (is_member i n) (in_some is n) None (c.key n)

  pub no_members : (is : List SetImage) (c : Content) (k : ℕ)
      → (without_images old is c).members k ≡ filter (λ m. not (in_some is m.number)) (c.members k)
  no_members [] c k = sym (filter_all (c.members k))
  no_members (i ∷ is) c k =
      no_members is (without_image (keeps_marks old i) i c) k
      ∙ filter_twice (λ (m : Member). is_member i m.number) (λ (m : Member). in_some is m.number) (c.members k)

  pub no_fields : (is : List SetImage) (c : Content) (k : ℕ)
      → (without_images old is c).fields k ≡ cond (in_some is k) None (c.fields k)
  no_fields [] c k = refl
  no_fields (i ∷ is) c k =
      no_fields is (without_image (keeps_marks old i) i c) k ∙ first_or_later (is_member i k) (in_some is k) None (c.fields k)

  pub no_blockers : (is : List SetImage) (c : Content) (k : ℕ)
      → (without_images old is c).blockers k ≡ cond (in_some is k) [] (c.blockers k)
  no_blockers [] c k = refl
  no_blockers (i ∷ is) c k =
      no_blockers is (without_image (keeps_marks old i) i c) k ∙ first_or_later (is_member i k) (in_some is k) [] (c.blockers k)

  pub no_affects : (is : List SetImage) (c : Content) (k : ℕ)
      → (without_images old is c).affects k ≡ cond (in_some is k) [] (c.affects k)
  no_affects [] c k = refl
  no_affects (i ∷ is) c k =
      no_affects is (without_image (keeps_marks old i) i c) k ∙ first_or_later (is_member i k) (in_some is k) [] (c.affects k)

  pub no_found : (is : List SetImage) (c : Content) (k : ℕ)
      → (without_images old is c).found k ≡ cond (loses_some old is k) [] (c.found k)
  no_found [] c k = refl
  no_found (i ∷ is) c k =
      no_found is (without_image (keeps_marks old i) i c) k
      ∙ first_or_later (loses_marks (keeps_marks old i) i k) (loses_some old is k) [] (c.found k)

  pub no_fixed : (is : List SetImage) (c : Content) (k : ℕ)
      → (without_images old is c).fixed k ≡ cond (loses_some old is k) [] (c.fixed k)
  no_fixed [] c k = refl
  no_fixed (i ∷ is) c k =
      no_fixed is (without_image (keeps_marks old i) i c) k
      ∙ first_or_later (loses_marks (keeps_marks old i) i k) (loses_some old is k) [] (c.fixed k)

  pub no_near : (is : List SetImage) (c : Content) (k : ℕ)
      → (without_images old is c).near k ≡ cond (loses_some old is k) (λ v. None) (c.near k)
  no_near [] c k = refl
  no_near (i ∷ is) c k =
      no_near is (without_image (keeps_marks old i) i c) k
      ∙ first_or_later (loses_marks (keeps_marks old i) i k) (loses_some old is k) (λ v. None) (c.near k)

  pub no_nodes : (is : List SetImage) (c : Content) → (without_images old is c).nodes ≡ c.nodes
  no_nodes [] c = refl
  no_nodes (i ∷ is) c = no_nodes is (without_image (keeps_marks old i) i c)

-- ---- with images that are apart

-- where an image is put
abbrev pub pick : {A : Type 0} → ℕ → (SetImage → A) → A → Option SetImage → A
pick k new old None = old
pick k new old (Some i) = cond (key_of i == k) (new i) old

pub apart_none : (is : List SetImage) (n : ℕ) → bug_in is n ≡ None → image_with is n ≡ None
apart_none is n h = none_from (image_with is n) (λ i e. let b = bug_in-some is n i e in none-some b.0 (sym h ∙ b.1))

pub own_key : (i : SetImage) → HasMember i → is_member i (key_of i) ≡ true
own_key i some = cases i.members some
  where
    cases : (ms : List Member) → ms ≢ [] → has (numbers_of ms) (first_number ms) ≡ true
    cases [] h = absurd (h refl)
    cases (m ∷ ms) h = ap (λ t. t || has (numbers_of ms) m.number) (eq-eqb m.number m.number refl)

pick_later : {A : Type 0} (i : SetImage) (is : List SetImage) (some : HasMember i)
    → ((n : ℕ) → is_member i n ≡ true → bug_in is n ≡ None) → (new : SetImage → A) (f : ℕ → A) (k : ℕ)
    → pick k new (put_at (key_of i) (new i) f k) (image_with is k) ≡ pick k new (f k) (image_with (i ∷ is) k)
pick_later i is some apart new f k =
    elim (is_member i k) as (λ t. is_member i k ≡ t
    → pick k new (put_at (key_of i) (new i) f k) (image_with is k) ≡ pick k new (f k) (cond t (Some i) (image_with is k))) [
      | true ↦ λ e. ap (pick k new (put_at (key_of i) (new i) f k)) (apart_none is k (apart k e))
      | false ↦ λ e. ap (λ x. pick k new x (image_with is k)) (elsewhere e (key_of i == k) refl)
    ] refl
  where
    elsewhere : is_member i k ≡ false → (t : Bool) → (key_of i == k) ≡ t → cond t (new i) (f k) ≡ f k
    elsewhere e true q = absurd (false≢true (sym e ∙ ap (is_member i) (sym (eqb-true (key_of i) k q)) ∙ own_key i some))
    elsewhere e false q = refl

abbrev pub given : List SetImage → (ℕ → Option ℕ) → ℕ → Option ℕ
given is f n = option_or (option_map key_of (image_with is n)) (f n)

pub put_key : (is : List SetImage) (c : Content) → AreApart is → (n : ℕ) → (with_images is c).key n ≡ given is c.key n
put_key [] c apart n = refl
put_key (i ∷ is) c apart n =
    put_key is (with_image i c) apart.1 n
    ∙ elim (is_member i n) as (λ t. is_member i n ≡ t
    → option_or (option_map key_of (image_with is n)) (cond t (Some (key_of i)) (c.key n))
    ≡ option_or (option_map key_of (cond t (Some i) (image_with is n))) (c.key n)) [
      | true ↦ λ e. ap (λ (o : Option SetImage). option_or (option_map key_of o) (Some (key_of i))) (apart_none is n (apart.0 n e))
      | false ↦ λ e. refl
    ] refl

module _ {A : Type 0} (field : Content → ℕ → A) (new : Content → SetImage → A)
    (one : (i : SetImage) (c : Content) (k : ℕ) → field (with_image i c) k ≡ put_at (key_of i) (new c i) (field c) k)
    (stays : (i : SetImage) (c : Content) → new (with_image i c) ≡ new c) where
  pub put_field : (is : List SetImage) (c : Content) → AreApart is → Each HasMember is → (k : ℕ)
      → field (with_images is c) k ≡ pick k (new c) (field c k) (image_with is k)
  put_field [] c apart some k = refl
  put_field (i ∷ is) c apart some k =
      put_field is (with_image i c) apart.1 some.1 k
      ∙ ap (λ (f : SetImage → A). pick k f (field (with_image i c) k) (image_with is k)) (stays i c)
      ∙ ap (λ x. pick k (new c) x (image_with is k)) (one i c k)
      ∙ pick_later i is some.0 apart.0 (new c) (field c) k

pub put_nodes : (is : List SetImage) (c : Content) → (with_images is c).nodes ≡ c.nodes
put_nodes [] c = refl
put_nodes (i ∷ is) c = put_nodes is (with_image i c)

module _ (is : List SetImage) (c : Content) (apart : AreApart is) (some : Each HasMember is) (k : ℕ) where
  pub put_members : (with_images is c).members k ≡ pick k (λ i. i.members) (c.members k) (image_with is k)
  put_members = put_field (λ c. c.members) (λ c i. i.members) (λ i c k. refl) (λ i c. refl) is c apart some k

  pub put_fields : (with_images is c).fields k ≡ pick k (λ i. Some (fields_of i.shared)) (c.fields k) (image_with is k)
  put_fields = put_field (λ c. c.fields) (λ c i. Some (fields_of i.shared)) (λ i c k. refl) (λ i c. refl) is c apart some k

  pub put_blockers : (with_images is c).blockers k ≡ pick k (λ i. i.shared.blockers) (c.blockers k) (image_with is k)
  put_blockers = put_field (λ c. c.blockers) (λ c i. i.shared.blockers) (λ i c k. refl) (λ i c. refl) is c apart some k

  pub put_affects : (with_images is c).affects k ≡ pick k (λ i. i.shared.affects) (c.affects k) (image_with is k)
  put_affects = put_field (λ c. c.affects) (λ c i. i.shared.affects) (λ i c k. refl) (λ i c. refl) is c apart some k

  pub put_found : (with_images is c).found k ≡ pick k (λ i. i.shared.found) (c.found k) (image_with is k)
  put_found = put_field (λ c. c.found) (λ c i. i.shared.found) (λ i c k. refl) (λ i c. refl) is c apart some k

  pub put_fixed : (with_images is c).fixed k ≡ pick k (λ i. i.shared.fixed) (c.fixed k) (image_with is k)
  put_fixed = put_field (λ c. c.fixed) (λ c i. i.shared.fixed) (λ i c k. refl) (λ i c. refl) is c apart some k

  pub put_near : (with_images is c).near k
      ≡ pick k (λ i. nearest_of c.nodes i.shared.found i.shared.fixed) (c.near k) (image_with is k)
  put_near = put_field (λ c. c.near) (λ c i. nearest_of c.nodes i.shared.found i.shared.fixed) (λ i c k. refl) (λ i c. refl) is c
      apart some k
