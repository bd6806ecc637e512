-- The key of a set that a desk has, and the first node at which its bugs are found.
use Rattle.std.proofs.Common.{◌≡◌, ◌≤◌, ◌<◌, ◌^◌, ◌+◌, ℕ, Bool, true, false, cond, List, [], ◌∷◌, length, drop, get_or, Option, Some, None, Result, Ok, Err, IfOk, sym, refl, ap, subst, ◌∙◌, arith}
use Rattle.std.specs.List.{find}
use Rattle.std.specs.Option.{option_and_then}
use Rattle.std.specs.Prelude.{option_map}
use Rattle.std.proofs.lemmas.Option.{none-some, same_Some}
use Rattle.base_words.specs.declared.named.TheConstants.{AFTER_LARGEST}
use Rattle.version_nodes.specs.Nodes.{Node}
use Rattle.version_nodes.specs.Statuses.{status}
use Rattle.bug_record.specs.Heads.{is_found}
use Rattle.bug_record.specs.Images.{bug_of, member_at, numbers_of}
use Rattle.bug_record.specs.Sets.{has, Each}
use Rattle.bug_record.specs.declared.bug.Bug.{Bug}
use Rattle.bug_record.specs.declared.bug.Member.{Member}
use Rattle.bug_record.specs.declared.bug.Shared.{Shared}
use Rattle.bug_record.specs.declared.bug.SetImage.{SetImage}
use Rattle.base_faults.specs.declared.store_fault.StoreFault.{StoreFault}
use Rattle.store_keys.specs.Keys.{key_of, first_number}
use Rattle.store_keys.proofs.KeyLemmas.{found-image, shown-some}
use Rattle.table_content.specs.Content.{Content}
use Rattle.table_content.specs.View.{image, desk_in, shared_of}
use Rattle.table_content.specs.declared.edit.SetFields.{SetFields}
use Rattle.table_reads.proofs.KeyLemmas.{image_is}
use Rattle.table_reads.proofs.LoopLemmas.{here}
use Rattle.table_reads.specs.Asked.{IsSetIn}
use Rattle.table_reads.specs.Found.{is_found_at}
use Rattle.table_reads.proofs.FoundLemmas.{found_at_node}

small : (n next : ℕ) → n < next → next ≤ AFTER_LARGEST → n < 2 ^ 32
small n next low limit = omega (arith, low, limit)

module _ (i : SetImage) (c : Content) (asked : IsSetIn i c) where
  -- its first bug is one of the desk
  first_bug : (b : Bug) × ((desk_in c).bug (key_of i) ≡ Some b) × (b.shared ≡ i.shared)
  first_bug = cases i.members refl
    where
      cases : (ms : List Member) → i.members ≡ ms → (b : Bug) × ((desk_in c).bug (key_of i) ≡ Some b) × (b.shared ≡ i.shared)
      cases [] e = absurd (asked.some e)
      cases (m ∷ ms) e = (bug_of i m, ap (λ (xs : List Member). (desk_in c).bug (first_number xs)) e ∙ (subst (Each (λ x. (desk_in c).bug x.number ≡ Some (bug_of i x))) e asked.set).0, refl)

  pub first_small : key_of i < 2 ^ 32
  first_small = small (key_of i) c.next (asked.kept.sound.in_range (key_of i) first_bug.0 first_bug.1).1 asked.kept.sound.next_in_range.1

  pub key_there : c.key (key_of i) ≡ None → ⊥
  key_there none = none-some first_bug.0
      (sym (ap (λ (o : Option ℕ). option_and_then (λ (j : SetImage). option_map (bug_of j) (member_at j.members (key_of i))) (option_and_then (image c) o)) none) ∙ first_bug.1)

  module _ (k : ℕ) (e : c.key (key_of i) ≡ Some k) where
    abbrev set_of : SetFields → SetImage
    set_of f = record { shared = shared_of c k f; members = c.members k }

    -- the set of the key has the image's fields
    same_fields : (f : SetFields) × (i.shared ≡ shared_of c k f)
    same_fields = cases (c.fields k) refl
      where
        j : (j : SetImage) × (image c k ≡ Some j) × (has (numbers_of j.members) (key_of i) ≡ true)
        j = found-image c.key (image c) asked.kept.keyed (key_of i) k e

        cases : (o : Option SetFields) → c.fields k ≡ o → (f : SetFields) × (i.shared ≡ shared_of c k f)
        cases None is = absurd (none-some j.0 (sym (ap (option_map set_of) is) ∙ j.1))
        cases (Some f) is =
            let x = shown-some c.key (image c) asked.kept.keyed k (key_of i) j.0 j.1 j.2 in
            let bug : first_bug.0 ≡ bug_of j.0 x.0 = same_Some _ _ (sym first_bug.1 ∙ x.1) in
            let set : set_of f ≡ j.0 = same_Some _ _ (sym (image_is c k f is) ∙ j.1) in
            (f, sym first_bug.2 ∙ ap (λ (b : Bug). b.shared) bug ∙ sym (ap (λ (s : SetImage). s.shared) set))

    right_at : (v : Node) → is_found_at c k v i.shared ≡ is_found (status c.nodes i.shared.found i.shared.fixed i.shared.closed v)
    right_at v =
        let f = same_fields in
        found_at_node c k v i.shared asked.kept (ap (λ (s : Shared). s.found) f.1) (ap (λ (s : Shared). s.fixed) f.1)

    -- so its row of nearest marks says where its bugs are found
    pub same_first : (vs : List Node) → find (λ v. is_found_at c k v i.shared) vs ≡ find (λ v. is_found (status c.nodes i.shared.found i.shared.fixed i.shared.closed v)) vs
    same_first vs = λ j. find (λ v. right_at v j) vs

-- ---- the first of some nodes

module _ (p : Node → Bool) (vs : List Node) (at : ℕ) (v : Node) (low : at < length vs) (is : v ≡ get_or vs at v) where
  pub found_there : p v ≡ true → find p (drop at vs) ≡ Some v
  found_there on = ap (find p) (here vs at v v low is) ∙ ap (λ t. cond t (Some v) (find p (drop (at + 1) vs))) on

  pub found_later : p v ≡ false → find p (drop at vs) ≡ find p (drop (at + 1) vs)
  found_later off = ap (find p) (here vs at v v low is) ∙ ap (λ t. cond t (Some v) (find p (drop (at + 1) vs))) off

-- ---- results

pub if_same : {A : Type 0} (r : Result A StoreFault) (P Q : A → Type 0) → ((a : A) → P a → Q a) → IfOk r P → IfOk r Q
if_same (Ok a) P Q more h = more a h
if_same (Err e) P Q more h = tt
