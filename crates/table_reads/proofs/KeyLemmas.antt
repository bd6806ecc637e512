-- The numbers of bugs and the keys of sets in a content that a desk keeps, and the set of a bug.
use Rattle.std.proofs.Common.{◌≡◌, ◌≤◌, ◌<◌, ◌^◌, ℕ, List, Option, Some, None, sym, refl, ap, subst, ◌∙◌, arith}
use Rattle.std.specs.Prelude.{option_map}
use Rattle.std.specs.Option.{option_and_then}
use Rattle.base_words.specs.declared.named.TheConstants.{AFTER_LARGEST}
use Rattle.bug_record.specs.Images.{bug_of, member_at}
use Rattle.bug_record.specs.declared.bug.Bug.{Bug}
use Rattle.bug_record.specs.declared.bug.Member.{Member}
use Rattle.bug_record.specs.declared.bug.Shared.{Shared}
use Rattle.bug_record.specs.declared.bug.SetImage.{SetImage}
use Rattle.store_keys.proofs.KeyLemmas.{found-image, shown-some, image-of_key}
use Rattle.table_content.specs.Content.{Content}
use Rattle.table_content.specs.View.{image, desk_in, shared_of}
use Rattle.table_content.specs.Kept.{IsKeptContent}
use Rattle.table_content.specs.declared.edit.SetFields.{SetFields}
use Rattle.store_contract.specs.Store.{IsImageOf}
use Rattle.table_reads.specs.Bugs.{image_with}
use Rattle.table_reads.specs.FoundSets.{IsSetFound, found_under}

small : (n next : ℕ) → n < next → next ≤ AFTER_LARGEST → n < 2 ^ 32
small n next low limit = omega (arith, low, limit)

-- the image of a set that has a row
pub image_is : (c : Content) (k : ℕ) (f : SetFields) → c.fields k ≡ Some f → image c k ≡ image_with c k f
image_is c k f e = ap (option_map (λ f. let i : SetImage = record { shared = shared_of c k f; members = c.members k } in i)) e

pub image_of_parts : (c : Content) (k : ℕ) (f : SetFields) (shared : Shared) (members : List Member) → shared ≡ shared_of c k f → members ≡ c.members k
    → Some (record { shared = shared; members = members }) ≡ image_with c k f
image_of_parts c k f shared members p q =
    ap (λ x. let i : SetImage = record { shared = x; members = members } in Some i) p
    ∙ ap (λ x. let i : SetImage = record { shared = shared_of c k f; members = x } in Some i) q

module _ (c : Content) (kept : IsKeptContent c) where
  bug_small : (n : ℕ) (b : Bug) → (desk_in c).bug n ≡ Some b → n < 2 ^ 32
  bug_small n b e = small n c.next (kept.sound.in_range n b e).1 kept.sound.next_in_range.1

  -- a number that is no u32 is no bug
  pub no_bug : (n : ℕ) → 2 ^ 32 ≤ n → (desk_in c).bug n ≡ None
  no_bug n large = cases ((desk_in c).bug n) refl
    where
      cases : (o : Option Bug) → (desk_in c).bug n ≡ o → o ≡ None
      cases None e = refl
      cases (Some b) e = absurd (let low = bug_small n b e in omega (arith, low, large))

  -- the key of a set is a u32
  pub set_small : (k : ℕ) (i : SetImage) → image c k ≡ Some i → k < 2 ^ 32
  set_small k i e =
      let x = shown-some c.key (image c) kept.keyed k k i e (kept.keyed.own k i e) in
      bug_small k (bug_of i x.0) x.1

  -- and so is the key of a bug
  pub key_small : (n k : ℕ) → c.key n ≡ Some k → k < 2 ^ 32
  key_small n k e =
      let i = found-image c.key (image c) kept.keyed n k e in
      set_small k i.0 i.1

  -- the image of a bug's key is that of its set
  pub image_found : (n : ℕ) → IsImageOf (desk_in c) n (option_and_then (image c) (c.key n))
  image_found n = cases (c.key n) refl
    where
      cases : (o : Option ℕ) → c.key n ≡ o → IsImageOf (desk_in c) n (option_and_then (image c) o)
      cases None e = ap (λ (o : Option ℕ). option_and_then (λ (i : SetImage). option_map (bug_of i) (member_at i.members n)) (option_and_then (image c) o)) e
      cases (Some k) e =
          let i = found-image c.key (image c) kept.keyed n k e in
          subst (IsImageOf (desk_in c) n) (sym i.1) (image-of_key c.key (image c) kept.keyed c.nodes c.next kept.sound n k i.0 e i.1)

  -- and it stands under that key
  pub set_found : (n k : ℕ) → c.key n ≡ Some k → IsSetFound c n (option_map (found_under k) (image c k))
  set_found n k e = cases (image c k) refl (subst (λ o. IsImageOf (desk_in c) n (option_and_then (image c) o)) e (image_found n))
    where
      cases : (o : Option SetImage) → image c k ≡ o → IsImageOf (desk_in c) n o → IsSetFound c n (option_map (found_under k) o)
      cases None here is = is
      cases (Some i) here is = (is, here)

  pub none_found : (n : ℕ) → c.key n ≡ None → IsSetFound c n None
  none_found n e = subst (λ o. IsImageOf (desk_in c) n (option_and_then (image c) o)) e (image_found n)
