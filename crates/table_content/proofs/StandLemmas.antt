-- Bugs that stand under the key of an image are the set of that key.
use Rattle.std.proofs.Common.{◌≡◌, ℕ, Bool, true, false, cond, ◌||◌, List, [], ◌∷◌, Option, Some, None, sym, refl, ap, ◌∙◌}
use Rattle.std.specs.Prelude.{filter, not, ◌==◌}
use Rattle.std.proofs.lemmas.Bool.{false≢true, eq-eqb}
use Rattle.std.proofs.lemmas.Option.{same_Some}
use Rattle.version_nodes.specs.Nodes.{Node}
use Rattle.bug_record.specs.Sets.{has}
use Rattle.bug_record.specs.Images.{numbers_of, HasMember}
use Rattle.bug_record.specs.declared.bug.Member.{Member}
use Rattle.bug_record.specs.declared.bug.SetImage.{SetImage}
use Rattle.store_keys.specs.Keys.{key_of}
use Rattle.version_marks.specs.Nearest.{nearest_of}
use Rattle.table_content.specs.Content.{Content}
use Rattle.table_content.specs.View.{image, shared_of}
use Rattle.table_content.specs.Kept.{IsKeptContent}
use Rattle.table_content.specs.Images.{is_member}
use Rattle.table_content.specs.Staying.{Stays}
use Rattle.table_content.specs.declared.edit.SetFields.{SetFields}
use Rattle.table_content.proofs.ChangeLemmas.{no_near_marks}

-- members that a test lets stay
all_stay : (p : ℕ → Bool) (ms : List Member) → ((n : ℕ) → has (numbers_of ms) n ≡ true → p n ≡ false)
    → filter (λ (m : Member). not (p m.number)) ms ≡ ms
all_stay p [] h = refl
all_stay p (m ∷ ms) h =
    ap (λ (t : Bool). cond (not t) (m ∷ filter (λ (x : Member). not (p x.number)) ms) (filter (λ (x : Member). not (p x.number)) ms))
    (h m.number (ap (λ t. t || has (numbers_of ms) m.number) (eq-eqb m.number m.number refl)))
    ∙ ap (λ xs. m ∷ xs) (all_stay p ms (λ n e. h n (later (m.number == n) (has (numbers_of ms) n) e)))
  where
    later : (a b : Bool) → b ≡ true → (a || b) ≡ true
    later true b e = refl
    later false b e = e

module _ (c : Content) (i : SetImage) (kept : IsKeptContent c) (some : HasMember i) (are : c.members (key_of i) ≡ i.members) where
  -- the set of a key that has fields
  set_is : (k : ℕ) (f : SetFields) → c.fields k ≡ Some f → image c k ≡ Some (record { shared = shared_of c k f; members = c.members k })
  set_is k f e = ap (λ (o : Option SetFields). elim o as (λ _. Option SetImage) [ None ↦ None | Some g ↦ Some (record { shared = shared_of c k g; members = c.members k }) ]) e

  -- a bug of a set has its key
  known : (k n : ℕ) (f : SetFields) → c.fields k ≡ Some f → has (numbers_of (c.members k)) n ≡ true → c.key n ≡ Some k
  known k n f e h = kept.keyed.known n k (record { shared = shared_of c k f; members = c.members k }) (set_is k f e) h

  keys : (n : ℕ) → is_member i n ≡ true → c.key n ≡ Some (key_of i)
  keys n h = cases (c.fields (key_of i)) refl
    where
      cases : (o : Option SetFields) → c.fields (key_of i) ≡ o → c.key n ≡ Some (key_of i)
      cases None e = absurd (some (sym are ∙ kept.no_members (key_of i) e))
      cases (Some f) e = known (key_of i) n f e (ap (λ (ms : List Member). has (numbers_of ms) n) are ∙ h)

  -- a set whose bug is one of the image's has its key
  only : (k n : ℕ) (f : SetFields) → c.fields k ≡ Some f → has (numbers_of (c.members k)) n ≡ true → is_member i n ≡ true → (key_of i == k) ≡ true
  only k n f e h own = eq-eqb (key_of i) k (same_Some (key_of i) k (sym (keys n own) ∙ known k n f e h))

  no_fields : (k : ℕ) → is_member i k ≡ true → (key_of i == k) ≡ false → c.fields k ≡ None
  no_fields k own other = cases (c.fields k) refl
    where
      cases : (o : Option SetFields) → c.fields k ≡ o → c.fields k ≡ None
      cases None e = e
      cases (Some f) e =
          absurd (false≢true (sym other ∙ only k k f e (kept.keyed.own k (record { shared = shared_of c k f; members = c.members k }) (set_is k f e)) own))

  elsewhere : (k : ℕ) → (key_of i == k) ≡ false → filter (λ (m : Member). not (is_member i m.number)) (c.members k) ≡ c.members k
  elsewhere k other = cases (c.fields k) refl
    where
      cases : (o : Option SetFields) → c.fields k ≡ o → filter (λ (m : Member). not (is_member i m.number)) (c.members k) ≡ c.members k
      cases None e = let none = kept.no_members k e in ap (filter (λ (m : Member). not (is_member i m.number))) none ∙ sym none
      cases (Some f) e = all_stay (is_member i) (c.members k) (λ n h. apart n h (is_member i n) refl)
        where
          apart : (n : ℕ) → has (numbers_of (c.members k)) n ≡ true → (t : Bool) → is_member i n ≡ t → is_member i n ≡ false
          apart n h true own = absurd (false≢true (sym other ∙ only k n f e h own))
          apart n h false own = own

  pub stand : Stays i c
  stand = record {
    members = are;
    keys = keys;
    others = λ k own other.
        let none = no_fields k own other in
        let found = kept.no_found k none in
        let fixed = kept.no_fixed k none in
        record {
          fields = none;
          found = found;
          fixed = fixed;
          blockers = kept.no_blockers k none;
          affects = kept.no_affects k none;
          near = λ v.
              kept.near k v
              ∙ ap (λ (x : List Node). nearest_of c.nodes x (c.fixed k) v) found
              ∙ ap (λ (x : List Node). nearest_of c.nodes [] x v) fixed
              ∙ sym (no_near_marks c.nodes v);
        };
    elsewhere = elsewhere;
  }
