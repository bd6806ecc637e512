-- The members of joined sets.
use Rattle.std.proofs.Common.{◌≡◌, ◌<◌, ℕ, Bool, true, false, cond, eqb, List, [], ◌∷◌, Option, Some, None, sym, refl, ap, ◌∙◌}
use Rattle.std.proofs.Common.{subst, arith}
use Rattle.std.specs.Prelude.{option_map, nat_lt, ◌==◌}
use Rattle.std.specs.Option.{option_or}
use Rattle.std.proofs.lemmas.Option.{none-some, same_Some}
use Rattle.std.proofs.lemmas.Bool.{eqb-true, false_from_ne_true}
use Rattle.std.proofs.lemmas.Bool.Decides.{nat_tests}
use Rattle.bug_record.specs.Sets.{has, IsAscending, with_item}
use Rattle.bug_record.specs.Images.{numbers_of, member_at, bug_of, bug_in, AreApart}
use Rattle.bug_record.specs.declared.bug.Bug.{Bug}
use Rattle.bug_record.specs.declared.bug.Member.{Member}
use Rattle.bug_record.specs.declared.bug.SetImage.{SetImage}
use Rattle.base_sequences.proofs.SetLemmas.{IsAscending-with_item, has-above, AllAbove-below}
use Rattle.bug_core.specs.Others.{has_any, is_meant, those_meant}
use Rattle.bug_record.specs.Sets.{with_items}
use Rattle.bug_core.specs.Joins.{with_members, number_of}
use Rattle.bug_images.proofs.ImageLemmas.{none_left, none_right, none_map, has-member_some, no_member-has}

-- the numbers of members with one more
numbers-with_item : (set : List Member) (x : Member)
    → numbers_of (with_item number_of set x) ≡ with_item (λ k. k) (numbers_of set) x.number
numbers-with_item [] x = refl
numbers-with_item (y ∷ ys) x =
    elim (nat_lt y.number x.number) as (λ t.
    numbers_of (cond t (y ∷ with_item number_of ys x) (cond (y.number == x.number) (y ∷ ys) (x ∷ y ∷ ys)))
    ≡ cond t (y.number ∷ with_item (λ k. k) (numbers_of ys) x.number)
    (cond (y.number == x.number) (y.number ∷ numbers_of ys) (x.number ∷ y.number ∷ numbers_of ys))) [
      | true ↦ ap (λ ns. y.number ∷ ns) (numbers-with_item ys x)
      | false ↦ elim (y.number == x.number) as (λ t. numbers_of (cond t (y ∷ ys) (x ∷ y ∷ ys))
          ≡ cond t (y.number ∷ numbers_of ys) (x.number ∷ y.number ∷ numbers_of ys)) [ true ↦ refl | false ↦ refl ]
    ]

pub ascending-with_item : (set : List Member) (x : Member) → IsAscending (numbers_of set)
    → IsAscending (numbers_of (with_item number_of set x))
ascending-with_item set x h =
    subst IsAscending (sym (numbers-with_item set x)) (IsAscending-with_item (numbers_of set) x.number h)

or_none : {A : Type 0} (o : Option A) → option_or o None ≡ o
or_none None = refl
or_none (Some a) = refl

-- the member m of a set with one more
member-with_item : (set : List Member) (x : Member) (m : ℕ) → IsAscending (numbers_of set)
    → member_at (with_item number_of set x) m ≡ option_or (member_at set m) (cond (eqb x.number m) (Some x) None)
member-with_item [] x m h = refl
member-with_item (y ∷ ys) x m h =
    elim (nat_lt y.number x.number) as (λ t. nat_lt y.number x.number ≡ t
    → member_at (cond t (y ∷ with_item number_of ys x) (cond (y.number == x.number) (y ∷ ys) (x ∷ y ∷ ys))) m
    ≡ option_or (cond (eqb y.number m) (Some y) (member_at ys m)) (cond (eqb x.number m) (Some x) None)) [
      | true ↦ λ e. elim (eqb y.number m) as (λ t. cond t (Some y) (member_at (with_item number_of ys x) m)
          ≡ option_or (cond t (Some y) (member_at ys m)) (cond (eqb x.number m) (Some x) None))
          [ true ↦ refl | false ↦ member-with_item ys x m h.1 ]
      | false ↦ λ e. elim (y.number == x.number) as (λ t. (y.number == x.number) ≡ t
          → member_at (cond t (y ∷ ys) (x ∷ y ∷ ys)) m
          ≡ option_or (cond (eqb y.number m) (Some y) (member_at ys m)) (cond (eqb x.number m) (Some x) None)) [
            | true ↦ λ q. same (eqb-true y.number x.number q) (eqb y.number m) refl
            | false ↦ λ q. before e q (eqb x.number m) refl
          ] refl
    ] refl
  where
    same : y.number ≡ x.number → (t : Bool) → eqb y.number m ≡ t
        → cond (eqb y.number m) (Some y) (member_at ys m)
        ≡ option_or (cond (eqb y.number m) (Some y) (member_at ys m)) (cond (eqb x.number m) (Some x) None)
    same one true q = ap (λ t. cond t (Some y) (member_at ys m)) q
        ∙ sym (ap (λ t. option_or (cond t (Some y) (member_at ys m)) (cond (eqb x.number m) (Some x) None)) q)
    same one false q =
        sym (or_none (cond (eqb y.number m) (Some y) (member_at ys m)))
        ∙ ap (λ t. option_or (cond (eqb y.number m) (Some y) (member_at ys m)) (cond t (Some x) None))
        (sym (ap (λ k. eqb k m) (sym one) ∙ q))

    above : nat_lt y.number x.number ≡ false → (y.number == x.number) ≡ false → x.number < y.number
    above e q = less y.number x.number e q
      where
        less : (y x : ℕ) → nat_lt y x ≡ false → (y == x) ≡ false → x < y
        less y x e q = grind (arith, nat_tests)

    lacks : x.number < y.number → x.number ≡ m → has (numbers_of (y ∷ ys)) m ≡ false
    lacks l one = false_from_ne_true (has (numbers_of (y ∷ ys)) m) (λ k.
        let p : x.number < m =
        has-above (numbers_of (y ∷ ys)) x.number m (l, AllAbove-below (numbers_of ys) x.number y.number l h.0) k in
        absurd (omega (arith, p, one)))

    before : nat_lt y.number x.number ≡ false → (y.number == x.number) ≡ false → (t : Bool) → eqb x.number m ≡ t
        → cond (eqb x.number m) (Some x) (cond (eqb y.number m) (Some y) (member_at ys m))
        ≡ option_or (cond (eqb y.number m) (Some y) (member_at ys m)) (cond (eqb x.number m) (Some x) None)
    before e q true r =
        ap (λ t. cond t (Some x) (member_at (y ∷ ys) m)) r
        ∙ sym (λ j. option_or (no_member-has (y ∷ ys) m (lacks (above e q) (eqb-true x.number m r)) j) (cond (r j) (Some x) None))
    before e q false r =
        ap (λ t. cond t (Some x) (member_at (y ∷ ys) m)) r
        ∙ sym (ap (λ t. option_or (member_at (y ∷ ys) m) (cond t (Some x) None)) r ∙ or_none (member_at (y ∷ ys) m))

-- with all of a list
ascending-with_items : (xs set : List Member) → IsAscending (numbers_of set)
    → IsAscending (numbers_of (with_items number_of set xs))
ascending-with_items [] set h = h
ascending-with_items (x ∷ xs) set h = ascending-with_items xs (with_item number_of set x) (ascending-with_item set x h)

member-with_items : (xs set : List Member) (m : ℕ) → IsAscending (numbers_of set)
    → member_at (with_items number_of set xs) m ≡ option_or (member_at set m) (member_at xs m)
member-with_items [] set m h = sym (or_none (member_at set m))
member-with_items (x ∷ xs) set m h =
    member-with_items xs (with_item number_of set x) m (ascending-with_item set x h)
    ∙ ap (λ o. option_or o (member_at xs m)) (member-with_item set x m h)
    ∙ group (member_at set m) (eqb x.number m)
  where
    group : (o : Option Member) (t : Bool)
        → option_or (option_or o (cond t (Some x) None)) (member_at xs m) ≡ option_or o (cond t (Some x) (member_at xs m))
    group None true = refl
    group None false = refl
    group (Some y) t = refl

-- the first member of a number in some images
abbrev pub first_member : List SetImage → ℕ → Option Member
first_member [] m = None
first_member (j ∷ js) m = option_or (member_at j.members m) (first_member js m)

pub ascending-with_members : (js : List SetImage) (set : List Member) → IsAscending (numbers_of set)
    → IsAscending (numbers_of (with_members set js))
ascending-with_members [] set h = h
ascending-with_members (j ∷ js) set h =
    ascending-with_members js (with_items number_of set j.members) (ascending-with_items j.members set h)

pub member-with_members : (js : List SetImage) (set : List Member) (m : ℕ) → IsAscending (numbers_of set)
    → member_at (with_members set js) m ≡ option_or (member_at set m) (first_member js m)
member-with_members [] set m h = sym (or_none (member_at set m))
member-with_members (j ∷ js) set m h =
    member-with_members js (with_items number_of set j.members) m (ascending-with_items j.members set h)
    ∙ ap (λ o. option_or o (first_member js m)) (member-with_items j.members set m h)
    ∙ group (member_at set m) (member_at j.members m)
  where
    group : (o p : Option Member) → option_or (option_or o p) (first_member js m) ≡ option_or o (option_or p (first_member js m))
    group None p = refl
    group (Some y) p = refl

-- the images that are meant: the first one, and those after it
meant-first : (ns : List ℕ) (j : SetImage) (is : List SetImage) (m : ℕ) → is_meant ns j ≡ true
    → first_member (those_meant ns (j ∷ is)) m ≡ option_or (member_at j.members m) (first_member (those_meant ns is) m)
meant-first ns j is m h = ap (λ t. first_member (cond t (j ∷ those_meant ns is) (those_meant ns is)) m) h

meant-other : (ns : List ℕ) (j : SetImage) (is : List SetImage) (m : ℕ) → is_meant ns j ≡ false
    → first_member (those_meant ns (j ∷ is)) m ≡ first_member (those_meant ns is) m
meant-other ns j is m h = ap (λ t. first_member (cond t (j ∷ those_meant ns is) (those_meant ns is)) m) h

meant-beside : (ns : List ℕ) (j : SetImage) (is : List SetImage) (m : ℕ) → member_at j.members m ≡ None
    → first_member (those_meant ns (j ∷ is)) m ≡ first_member (those_meant ns is) m
meant-beside ns j is m e =
    elim (is_meant ns j) as (λ t. is_meant ns j ≡ t
    → first_member (those_meant ns (j ∷ is)) m ≡ first_member (those_meant ns is) m) [
      | true ↦ λ q. meant-first ns j is m q ∙ ap (λ o. option_or o (first_member (those_meant ns is) m)) e
      | false ↦
          λ q. meant-other ns j is m q
    ] refl

-- a bug that no image shows is in none of them
pub meant-nowhere : (ns : List ℕ) (is : List SetImage) (m : ℕ) → bug_in is m ≡ None → first_member (those_meant ns is) m ≡ None
meant-nowhere ns [] m h = refl
meant-nowhere ns (j ∷ is) m h =
    meant-beside ns j is m
    (none_map (bug_of j) (member_at j.members m) (none_left (option_map (bug_of j) (member_at j.members m)) (bug_in is m) h))
    ∙ meant-nowhere ns is m (none_right (option_map (bug_of j) (member_at j.members m)) (bug_in is m) h)

-- a bug that is merged with one of those meant is a member
pub meant-inside : (ns : List ℕ) (is : List SetImage) (m : ℕ) (b : Bug) → bug_in is m ≡ Some b → has_any b.merged ns ≡ true
    → (j : SetImage) × (x : Member) × (first_member (those_meant ns is) m ≡ Some x) × (b ≡ bug_of j x)
meant-inside ns [] m b h k = absurd (none-some b h)
meant-inside ns (j ∷ is) m b h k =
    elim (member_at j.members m) as (λ o. member_at j.members m ≡ o → option_or (option_map (bug_of j) o) (bug_in is m) ≡ Some b
    → (i : SetImage) × (x : Member) × (first_member (those_meant ns (j ∷ is)) m ≡ Some x) × (b ≡ bug_of i x)) [
      | None ↦ λ e h. let r = meant-inside ns is m b h k in (r.0, r.1, meant-beside ns j is m e ∙ r.2, r.3)
      | Some x ↦ λ e h. (
        j,
        x,
        meant-first ns j is m (ap (λ (z : Bug). has_any z.merged ns) (same_Some _ _ h) ∙ k)
            ∙ ap (λ o. option_or o (first_member (those_meant ns is) m)) e,
        sym (same_Some _ _ h),
      )
    ] refl h

-- and another one is not
pub meant-outside : (ns : List ℕ) (is : List SetImage) (m : ℕ) (b : Bug) → AreApart is → bug_in is m ≡ Some b
    → has_any b.merged ns ≡ false → first_member (those_meant ns is) m ≡ None
meant-outside ns [] m b a h k = refl
meant-outside ns (j ∷ is) m b a h k =
    elim (member_at j.members m) as (λ o. member_at j.members m ≡ o → option_or (option_map (bug_of j) o) (bug_in is m) ≡ Some b
    → first_member (those_meant ns (j ∷ is)) m ≡ None) [
      | None ↦ λ e h. meant-beside ns j is m e ∙ meant-outside ns is m b a.1 h k
      | Some x ↦ λ e h.
          meant-other ns j is m (ap (λ (z : Bug). has_any z.merged ns) (same_Some _ _ h) ∙ k)
          ∙ meant-nowhere ns is m (a.0 m (has-member_some j.members m x e))
    ] refl h
