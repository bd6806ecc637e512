-- Sets of tags stay sets, what is in them, and that sets of the same tags are one.
use Rattle.std.proofs.Common.{◌≡◌, ◌<◌, ℕ, zero, suc, Bool, true, false, cond, ◌||◌, ◌&&◌, List, [], ◌∷◌, sym, refl, ap, ◌∙◌}
use Rattle.std.proofs.Common.{subst, arith}
use Rattle.std.specs.Prelude.{not, map, filter, ◌==◌, nat_lt}
use Rattle.std.specs.List.{list_any}
use Rattle.std.proofs.lemmas.Bool.{false≢true, eqb-true, eq-eqb}
use Rattle.std.proofs.lemmas.Bool.Decides.{nat_tests}
use Rattle.base_sequences.specs.Sets.{has, AllAbove, IsAscending, with_item}
use Rattle.bug_record.specs.Tags.{all_tags, tag_place, same_tag, has_tag, with_tag, without_tag, IsTagSet}
use Rattle.bug_record.specs.Merges.{joined_tags}
use Rattle.bug_record.specs.declared.bug.Bug.{Bug}
use Rattle.bug_record.specs.declared.tag.Tag.{Tag}
use Rattle.bug_record.specs.declared.tag.Tag.TheVariants as tags
use Rattle.base_sequences.proofs.SetLemmas.{has-with_item, IsAscending-with_item, same-ascending}

-- the tag of a place
abbrev tag_at : ℕ → Tag
tag_at zero = tags.A11y
tag_at (suc zero) = tags.Confirmed
tag_at (suc (suc zero)) = tags.DebianInstaller
tag_at (suc (suc (suc zero))) = tags.FixedUpstream
tag_at (suc (suc (suc (suc zero)))) = tags.Ftbfs
tag_at (suc (suc (suc (suc (suc zero))))) = tags.Help
tag_at (suc (suc (suc (suc (suc (suc zero)))))) = tags.Ipv6
tag_at (suc (suc (suc (suc (suc (suc (suc zero))))))) = tags.L10n
tag_at (suc (suc (suc (suc (suc (suc (suc (suc zero)))))))) = tags.Lfs
tag_at (suc (suc (suc (suc (suc (suc (suc (suc (suc zero))))))))) = tags.Moreinfo
tag_at (suc (suc (suc (suc (suc (suc (suc (suc (suc (suc zero)))))))))) = tags.Newcomer
tag_at (suc (suc (suc (suc (suc (suc (suc (suc (suc (suc (suc zero))))))))))) = tags.Patch
tag_at (suc (suc (suc (suc (suc (suc (suc (suc (suc (suc (suc (suc zero)))))))))))) = tags.Pending
tag_at (suc (suc (suc (suc (suc (suc (suc (suc (suc (suc (suc (suc (suc zero))))))))))))) = tags.Security
tag_at (suc (suc (suc (suc (suc (suc (suc (suc (suc (suc (suc (suc (suc (suc zero)))))))))))))) = tags.Unreproducible
tag_at (suc (suc (suc (suc (suc (suc (suc (suc (suc (suc (suc (suc (suc (suc (suc zero))))))))))))))) = tags.Upstream
tag_at (suc (suc (suc (suc (suc (suc (suc (suc (suc (suc (suc (suc (suc (suc (suc (suc n)))))))))))))))) = tags.Wontfix

tag_at-place : (t : Tag) → tag_at (tag_place t) ≡ t
tag_at-place tags.A11y = refl
tag_at-place _ = refl

-- tags of one place are one
pub same_tag_place : (t u : Tag) → tag_place t ≡ tag_place u → t ≡ u
same_tag_place t u e = sym (tag_at-place t) ∙ ap tag_at e ∙ tag_at-place u

pub same_tag-true : (t u : Tag) → same_tag t u ≡ true → t ≡ u
same_tag-true t u e = same_tag_place t u (eqb-true (tag_place t) (tag_place u) e)

pub same_tag-itself : (t : Tag) → same_tag t t ≡ true
same_tag-itself t = eq-eqb (tag_place t) (tag_place t) refl

eqb-turned : (a b : ℕ) → (a == b) ≡ (b == a)
eqb-turned a b = grind (arith, nat_tests)

-- a set of tags by their places
pub has-places : (set : List Tag) (t : Tag) → has (map tag_place set) (tag_place t) ≡ has_tag set t
has-places [] t = refl
has-places (u ∷ set) t =
    ap (λ b. b || has (map tag_place set) (tag_place t)) (eqb-turned (tag_place u) (tag_place t))
    ∙ ap (λ b. same_tag t u || b) (has-places set t)

map-with_tag : (set : List Tag) (t : Tag) → map tag_place (with_tag set t) ≡ with_item (λ k. k) (map tag_place set) (tag_place t)
map-with_tag [] t = refl
map-with_tag (u ∷ set) t =
    elim (nat_lt (tag_place u) (tag_place t)) as (λ b. map tag_place
    (cond b (u ∷ with_tag set t) (cond (tag_place u == tag_place t) (u ∷ set) (t ∷ u ∷ set)))
    ≡ cond b (tag_place u ∷ with_item (λ k. k) (map tag_place set) (tag_place t))
    (cond (tag_place u == tag_place t) (tag_place u ∷ map tag_place set) (tag_place t ∷ tag_place u ∷ map tag_place set))) [
      | true ↦ ap (λ ps. tag_place u ∷ ps) (map-with_tag set t)
      | false ↦ elim (tag_place u == tag_place t) as (λ b. map tag_place (cond b (u ∷ set) (t ∷ u ∷ set))
          ≡ cond b (tag_place u ∷ map tag_place set) (tag_place t ∷ tag_place u ∷ map tag_place set))
          [ true ↦ refl | false ↦ refl ]
    ]

pub has-with_tag : (set : List Tag) (t u : Tag) → has_tag (with_tag set t) u ≡ (has_tag set u || same_tag t u)
has-with_tag set t u =
    sym (has-places (with_tag set t) u) ∙ ap (λ ps. has ps (tag_place u)) (map-with_tag set t)
    ∙ has-with_item (map tag_place set) (tag_place t) (tag_place u) ∙ ap (λ b. b || same_tag t u) (has-places set u)

-- those tags of a set that a test passes
pub has-tag_filter : (p : Tag → Bool) (set : List Tag) (t : Tag) → has_tag (filter p set) t ≡ (has_tag set t && p t)
has-tag_filter p [] t = refl
has-tag_filter p (u ∷ set) t =
    elim (p u) as (λ b. p u ≡ b → has_tag (cond b (u ∷ filter p set) (filter p set)) t
    ≡ ((same_tag t u || has_tag set t) && p t)) [
      | true ↦ λ e. ap (λ b. same_tag t u || b) (has-tag_filter p set t)
          ∙ stays (same_tag t u) (has_tag set t) (p t) (λ q. ap p (same_tag-true t u q) ∙ e)
      | false ↦ λ e. has-tag_filter p set t ∙ gone (same_tag t u) (has_tag set t) (p t) (λ q. ap p (same_tag-true t u q) ∙ e)
    ] refl
  where
    stays : (a b c : Bool) → (a ≡ true → c ≡ true) → (a || (b && c)) ≡ ((a || b) && c)
    stays true b c h = sym (h refl)
    stays false b c h = refl

    gone : (a b c : Bool) → (a ≡ true → c ≡ false) → (b && c) ≡ ((a || b) && c)
    gone true true c h = refl
    gone true false c h = sym (h refl)
    gone false b c h = refl

pub has-without_tag : (set : List Tag) (t u : Tag) → has_tag (without_tag set t) u ≡ (has_tag set u && not (same_tag t u))
has-without_tag set t u = has-tag_filter (λ v. not (same_tag t v)) set u

pub set-none_tags : IsTagSet []
set-none_tags = tt

pub set-with_tag : (set : List Tag) (t : Tag) → IsTagSet set → IsTagSet (with_tag set t)
set-with_tag set t h = subst IsAscending (sym (map-with_tag set t)) (IsAscending-with_item (map tag_place set) (tag_place t) h)

above-filter : (p : Tag → Bool) (set : List Tag) (k : ℕ) → AllAbove k (map tag_place set)
    → AllAbove k (map tag_place (filter p set))
above-filter p [] k h = tt
above-filter p (t ∷ set) k h =
    elim (p t) as (λ b. AllAbove k (map tag_place (cond b (t ∷ filter p set) (filter p set))))
    [ true ↦ (h.0, above-filter p set k h.1) | false ↦ above-filter p set k h.1 ]

pub set-tag_filter : (p : Tag → Bool) (set : List Tag) → IsTagSet set → IsTagSet (filter p set)
set-tag_filter p [] h = tt
set-tag_filter p (t ∷ set) h =
    elim (p t) as (λ b. IsTagSet (cond b (t ∷ filter p set) (filter p set)))
    [ true ↦ (above-filter p set (tag_place t) h.0, set-tag_filter p set h.1) | false ↦ set-tag_filter p set h.1 ]

pub set-without_tag : (set : List Tag) (t : Tag) → IsTagSet set → IsTagSet (without_tag set t)
set-without_tag set t h = set-tag_filter (λ u. not (same_tag t u)) set h

-- all tags are a set, in which each tag is
set-all_tags : IsTagSet all_tags
set-all_tags = ascending 17 0
  where
    numbers : ℕ → ℕ → List ℕ
    numbers zero k = []
    numbers (suc n) k = k ∷ numbers n (suc k)

    above : (n j k : ℕ) → j < k → AllAbove j (numbers n k)
    above zero j k l = tt
    above (suc n) j k l = (l, above n j (suc k) (omega (arith, l)))

    ascending : (n k : ℕ) → IsAscending (numbers n k)
    ascending zero k = tt
    ascending (suc n) k = (above n k (suc k) (omega arith), ascending n (suc k))

has-all_tags : (t : Tag) → has_tag all_tags t ≡ true
has-all_tags tags.A11y = refl
has-all_tags _ = refl

-- the tags of merged bugs
pub has-joined_tags : (bugs : List Bug) (t : Tag) → has_tag (joined_tags bugs) t ≡ list_any (λ b. has_tag b.shared.tags t) bugs
has-joined_tags bugs t =
    has-tag_filter (λ tag. list_any (λ b. has_tag b.shared.tags tag) bugs) all_tags t
    ∙ ap (λ b. b && list_any (λ (b : Bug). has_tag b.shared.tags t) bugs) (has-all_tags t)

pub set-joined_tags : (bugs : List Bug) → IsTagSet (joined_tags bugs)
set-joined_tags bugs = set-tag_filter (λ tag. list_any (λ b. has_tag b.shared.tags tag) bugs) all_tags set-all_tags

-- a number among the places of a set is the place of a tag
placed : (set : List Tag) (n : ℕ) → has (map tag_place set) n ≡ true → (t : Tag) × (tag_place t ≡ n)
placed [] n e = absurd (false≢true e)
placed (t ∷ set) n e =
    elim (tag_place t == n) as (λ b. (tag_place t == n) ≡ b → (b || has (map tag_place set) n) ≡ true → (t : Tag)
    × (tag_place t ≡ n))
    [ true ↦ λ q e. (t, eqb-true (tag_place t) n q) | false ↦ λ q e. placed set n e ] refl e

-- what is in one set by its places is in the other
carried : (xs ys : List Tag) → ((t : Tag) → has_tag xs t ≡ has_tag ys t) → (n : ℕ) → has (map tag_place xs) n ≡ true
    → has (map tag_place ys) n ≡ true
carried xs ys h n e =
    let p = placed xs n e in
    subst (λ k. has (map tag_place xs) k ≡ true → has (map tag_place ys) k ≡ true) p.1
    (λ e. has-places ys p.0 ∙ sym (h p.0) ∙ sym (has-places xs p.0) ∙ e) e

-- tags by their places
tags-at : (set : List Tag) → map tag_at (map tag_place set) ≡ set
tags-at [] = refl
tags-at (t ∷ set) = ap (λ (u : Tag). u ∷ map tag_at (map tag_place set)) (tag_at-place t) ∙ ap (λ us. t ∷ us) (tags-at set)

-- two sets of the same tags are one
pub same-tag_sets : (xs ys : List Tag) → IsTagSet xs → IsTagSet ys → ((t : Tag) → has_tag xs t ≡ has_tag ys t) → xs ≡ ys
same-tag_sets xs ys a b h =
    sym (tags-at xs)
    ∙ ap (λ ps. map tag_at ps)
    (same-ascending (map tag_place xs) (map tag_place ys) a b
    (λ n. both (has (map tag_place xs) n) (has (map tag_place ys) n) (carried xs ys h n)
    (carried ys xs (λ t. sym (h t)) n)))
    ∙ tags-at ys
  where
    both : (s t : Bool) → (s ≡ true → t ≡ true) → (t ≡ true → s ≡ true) → s ≡ t
    both true t f g = sym (f refl)
    both false true f g = g refl
    both false false f g = refl
