-- What differs where a set stays the same bugs.
use Rattle.std.proofs.Common.{◌≡◌, ◌<◌, ℕ, Bool, true, false, cond, not, ◌&&◌, ◌||◌, eqb, List, [], ◌∷◌, Option, Some, None, sym}
use Rattle.std.proofs.Common.{refl, ap, ◌∙◌, subst, arith}
use Rattle.std.specs.Prelude.{nat_lt, option_map}
use Rattle.std.specs.Option.{option_or}
use Rattle.std.specs.Str.{bytes_eq}
use Rattle.std.proofs.lemmas.Bool.{false≢true, eqb-true, eq-eqb, ltb-true, and_parts, or_parts}
use Rattle.std.proofs.lemmas.Slice.Eq.{bytes_eq-Decides}
use Rattle.bug_record.specs.Sets.{has, AllAbove, IsAscending}
use Rattle.bug_record.specs.Images.{numbers_of, member_at, bug_of, bug_in}
use Rattle.bug_record.specs.Changed.{same_shared, same_at, AreChanged}
use Rattle.bug_record.specs.declared.bug.Member.{Member}
use Rattle.bug_record.specs.declared.bug.SetImage.{SetImage}
use Rattle.base_sequences.proofs.SetLemmas.{AllAbove-below, has-above}
use Rattle.bug_images.specs.Changes.{same_texts, differs, same_member, same_members, same_image, same_images}
use Rattle.bug_images.specs.Kept.{ascends, retold, IsKept}
use Rattle.bug_images.proofs.ImageLemmas.{no_member-has}
use Rattle.bug_record.proofs.EqualLemmas.{same_shared-true}
use Rattle.bug_images.proofs.ChangedLemmas.{changed-are}

-- numbers that ascend by the test ascend
all-above : (k : ℕ) (ns : List ℕ) → ascends (Some k) ns ≡ true → AllAbove k ns × IsAscending ns
all-above k [] h = (tt, tt)
all-above k (n ∷ ns) h =
    let p = and_parts (nat_lt k n) (ascends (Some n) ns) h in
    let r = all-above n ns p.1 in
    let l : k < n = ltb-true k n p.0 in
    ((l, AllAbove-below ns k n l r.0), r)

pub ascending-from : (ns : List ℕ) → ascends None ns ≡ true → IsAscending ns
ascending-from [] h = tt
ascending-from (n ∷ ns) h = all-above n ns h

pub kept-from : (old new : SetImage) → bytes_eq (numbers_of old.members) (numbers_of new.members) ≡ true → (t : Bool)
    → t ≡ ascends None (numbers_of new.members) → t ≡ true → IsKept old new
kept-from old new same t e h =
    record {
      numbers = (bytes_eq-Decides (numbers_of old.members) (numbers_of new.members)).0 same;
      ascending =
          ascending-from (numbers_of new.members) (sym e ∙ h);
    }

-- the numbers of those that differ are among all, and ascend
none-retold : (ms ns : List Member) (k : ℕ) → has (numbers_of ns) k ≡ false → has (retold ms ns) k ≡ false
none-retold [] ns k h = refl
none-retold (m ∷ ms) [] k h = refl
none-retold (m ∷ ms) (n ∷ ns) k h =
    let p = or_parts (eqb n.number k) (has (numbers_of ns) k) h in
    elim (same_texts m n) as (λ t. has (cond t (retold ms ns) (n.number ∷ retold ms ns)) k ≡ false)
    [ true ↦ none-retold ms ns k p.1 | false ↦ ap (λ t. t || has (retold ms ns) k) p.0 ∙ none-retold ms ns k p.1 ]

above-retold : (ms ns : List Member) (k : ℕ) → AllAbove k (numbers_of ns) → AllAbove k (retold ms ns)
above-retold [] ns k h = tt
above-retold (m ∷ ms) [] k h = tt
above-retold (m ∷ ms) (n ∷ ns) k h =
    elim (same_texts m n) as (λ t. AllAbove k (cond t (retold ms ns) (n.number ∷ retold ms ns)))
    [ true ↦ above-retold ms ns k h.1 | false ↦ (h.0, above-retold ms ns k h.1) ]

ascending-retold : (ms ns : List Member) → IsAscending (numbers_of ns) → IsAscending (retold ms ns)
ascending-retold [] ns h = tt
ascending-retold (m ∷ ms) [] h = tt
ascending-retold (m ∷ ms) (n ∷ ns) h =
    elim (same_texts m n) as (λ t. IsAscending (cond t (retold ms ns) (n.number ∷ retold ms ns)))
    [ true ↦ ascending-retold ms ns h.1 | false ↦ (above-retold ms ns n.number h.0, ascending-retold ms ns h.1) ]

-- the two members of a number
abbrev Told : List Member → List Member → ℕ → Type 0
Told ms ns k = (x : Member) × (y : Member) × (member_at ms k ≡ Some x) × (member_at ns k ≡ Some y)
    × (has (retold ms ns) k ≡ not (same_texts x y))

abbrev first : List ℕ → ℕ
first [] = 0
first (x ∷ xs) = x

abbrev rest : List ℕ → List ℕ
rest [] = []
rest (x ∷ xs) = xs

told : (ms ns : List Member) → numbers_of ms ≡ numbers_of ns → IsAscending (numbers_of ns) → (k : ℕ)
    → has (numbers_of ns) k ≡ true → Told ms ns k
told [] ns e a k h = absurd (false≢true (ap (λ z. has z k) e ∙ h))
told (m ∷ ms) [] e a k h = absurd (false≢true h)
told (m ∷ ms) (n ∷ ns) e a k h =
    elim (eqb n.number k) as (λ t. eqb n.number k ≡ t → (t || has (numbers_of ns) k) ≡ true → Told (m ∷ ms) (n ∷ ns) k) [
      | true ↦ λ q _. here q
      | false ↦ λ q h. later q (told ms ns (ap rest e) a.1 k h)
    ] refl h
  where
    same : m.number ≡ n.number
    same = ap first e

    -- a number of the first member is no later one
    alone : eqb n.number k ≡ true → (t : Bool) → has (numbers_of ns) k ≡ t → has (numbers_of ns) k ≡ false
    alone q false w = w
    alone q true w = let l : n.number < k = has-above (numbers_of ns) n.number k a.0 w in let z : n.number ≡ k =
        eqb-true n.number k q in absurd (omega (arith, l, z))

    here : eqb n.number k ≡ true → Told (m ∷ ms) (n ∷ ns) k
    here q = (
      m,
      n,
      ap (λ t. cond t (Some m) (member_at ms k)) (ap (λ z. eqb z k) same ∙ q),
      ap (λ t. cond t (Some n) (member_at ns k)) q,
      elim (same_texts m n) as (λ t. has (cond t (retold ms ns) (n.number ∷ retold ms ns)) k ≡ not t)
          [ true ↦ none-retold ms ns k (alone q (has (numbers_of ns) k) refl) | false ↦ ap (λ t. t || has (retold ms ns) k) q ],
    )

    later : eqb n.number k ≡ false → Told ms ns k → Told (m ∷ ms) (n ∷ ns) k
    later q r = (
      r.0,
      r.1,
      ap (λ t. cond t (Some m) (member_at ms k)) (ap (λ z. eqb z k) same ∙ q) ∙ r.2,
      ap (λ t. cond t (Some n) (member_at ns k)) q ∙ r.3,
      elim (same_texts m n) as (λ t. has (cond t (retold ms ns) (n.number ∷ retold ms ns)) k ≡ not (same_texts r.0 r.1))
          [ true ↦ r.4 | false ↦ ap (λ t. t || has (retold ms ns) k) q ∙ r.4 ],
    )

-- a number of no member is no bug of theirs
absent-of : (old new : SetImage) (others : List SetImage) → IsKept old new → (n : ℕ) → has (numbers_of new.members) n ≡ false
    → bug_in (old ∷ others) n ≡ bug_in (new ∷ others) n
absent-of old new others h n e =
    ap (λ (o : Option Member). option_or (option_map (bug_of old) o) (bug_in others n))
    (no_member-has old.members n (ap (λ z. has z n) h.numbers ∙ e))
    ∙ sym (ap (λ (o : Option Member). option_or (option_map (bug_of new) o) (bug_in others n)) (no_member-has new.members n e))

absent : (old new : SetImage) → IsKept old new → (n : ℕ) → has (numbers_of new.members) n ≡ false
    → bug_in (old ∷ []) n ≡ bug_in (new ∷ []) n
absent old new = absent-of old new []

-- a bug of theirs is shown alike, whatever images follow
shown-of : (old new : SetImage) (before after : List SetImage) → IsKept old new → (n : ℕ)
    → has (numbers_of new.members) n ≡ true → bug_in (old ∷ before) n ≡ bug_in (new ∷ before) n
    → bug_in (old ∷ after) n ≡ bug_in (new ∷ after) n
shown-of old new before after h n q e =
    let t = told old.members new.members h.numbers h.ascending n q in
    ap (λ (o : Option Member). option_or (option_map (bug_of old) o) (bug_in after n)) t.2
    ∙ sym (ap (λ (o : Option Member). option_or (option_map (bug_of old) o) (bug_in before n)) t.2) ∙ e
    ∙ ap (λ (o : Option Member). option_or (option_map (bug_of new) o) (bug_in before n)) t.3
    ∙ sym (ap (λ (o : Option Member). option_or (option_map (bug_of new) o) (bug_in after n)) t.3)

-- what differs where images follow that are the same
pub changed-first : (old new : SetImage) (others : List SetImage) (r : List ℕ) → IsKept old new
    → AreChanged (bug_in (old ∷ [])) (bug_in (new ∷ [])) r → AreChanged (bug_in (old ∷ others)) (bug_in (new ∷ others)) r
changed-first old new others r h are = record {
  ascending = are.ascending;
  listed = λ n e w. are.listed n e (alone n (has (numbers_of new.members) n) refl w);
  others = λ n e. along n (has (numbers_of new.members) n) refl (are.others n e);
}
  where
    alone : (n : ℕ) (t : Bool) → has (numbers_of new.members) n ≡ t → bug_in (old ∷ others) n ≡ bug_in (new ∷ others) n
        → bug_in (old ∷ []) n ≡ bug_in (new ∷ []) n
    alone n false q w = absent old new h n q
    alone n true q w = shown-of old new others [] h n q w

    along : (n : ℕ) (t : Bool) → has (numbers_of new.members) n ≡ t → bug_in (old ∷ []) n ≡ bug_in (new ∷ []) n
        → bug_in (old ∷ others) n ≡ bug_in (new ∷ others) n
    along n false q w = absent-of old new others h n q
    along n true q w = shown-of old new [] others h n q w

-- members and images that the tests find equal
pub members-same : (ms ns : List Member) → same_members ms ns ≡ true → ms ≡ ns
members-same [] [] e = refl
members-same [] (n ∷ ns) e = absurd (false≢true e)
members-same (m ∷ ms) [] e = absurd (false≢true e)
members-same (m ∷ ms) (n ∷ ns) e =
    let p = and_parts (same_member m n) (same_members ms ns) e in
    let q = and_parts (eqb m.number n.number) (same_texts m n) p.0 in
    let r = and_parts (bytes_eq m.title n.title) (bytes_eq m.submitter n.submitter) q.1 in
    λ j. record {
      number = eqb-true m.number n.number q.0 j;
      title = (bytes_eq-Decides m.title n.title).0 r.0 j;
      submitter = (bytes_eq-Decides m.submitter n.submitter).0 r.1 j;
    } ∷ members-same ms ns p.1 j

pub same-self : (ms : List Member) → same_members ms ms ≡ true
same-self [] = refl
same-self (m ∷ ms) = λ j.
    (eq-eqb m.number m.number refl j
    && ((bytes_eq-Decides m.title m.title).1 refl j && (bytes_eq-Decides m.submitter m.submitter).1 refl j))
    && same-self ms j

pub images-same : (is js : List SetImage) → same_images is js ≡ true → is ≡ js
images-same [] [] e = refl
images-same [] (j ∷ js) e = absurd (false≢true e)
images-same (i ∷ is) [] e = absurd (false≢true e)
images-same (i ∷ is) (k ∷ ks) e =
    let p = and_parts (same_image i k) (same_images is ks) e in
    let q = and_parts (same_shared i.shared k.shared) (same_members i.members k.members) p.0 in
    λ j. record {
      shared = same_shared-true i.shared k.shared q.0 j;
      members = members-same i.members k.members q.1 j;
    } ∷ images-same is ks p.1 j

-- a bug differs in its texts or in the shared fields
differ : (old new : SetImage) → IsKept old new → (n : ℕ) (t : Told old.members new.members n)
    → differs (old ∷ []) (new ∷ []) n ≡ not (same_texts t.0 t.1 && (same_shared old.shared new.shared && true))
differ old new h n t =
    (λ j. not (same_at (option_or (option_map (bug_of old) (t.2 j)) None) (option_or (option_map (bug_of new) (t.3 j)) None)))
    ∙ ap (λ b. not (same_texts t.0 t.1 && (same_shared old.shared new.shared && b)))
    ((bytes_eq-Decides (numbers_of old.members) (numbers_of new.members)).1 h.numbers)

pub changed-shared : (old new : SetImage) (r : List ℕ) → IsKept old new → same_shared old.shared new.shared ≡ false
    → r ≡ numbers_of new.members → AreChanged (bug_in (old ∷ [])) (bug_in (new ∷ [])) r
changed-shared old new r h other e =
    changed-are (old ∷ []) (new ∷ []) (has (numbers_of new.members)) r (absent old new h) (subst IsAscending (sym e) h.ascending)
    (λ n. ap (λ z. has z n) e ∙ each n (has (numbers_of new.members) n) refl)
  where
    never : (a b : Bool) → b ≡ false → true ≡ not (a && (b && true))
    never true true w = absurd (false≢true (sym w))
    never true false w = refl
    never false b w = refl

    each : (n : ℕ) (t : Bool) → has (numbers_of new.members) n ≡ t
        → has (numbers_of new.members) n ≡ (has (numbers_of new.members) n && differs (old ∷ []) (new ∷ []) n)
    each n false q = q ∙ sym (ap (λ t. t && differs (old ∷ []) (new ∷ []) n) q)
    each n true q =
        let t = told old.members new.members h.numbers h.ascending n q in
        q ∙ never (same_texts t.0 t.1) (same_shared old.shared new.shared) other ∙ sym (differ old new h n t)
        ∙ sym (ap (λ t. t && differs (old ∷ []) (new ∷ []) n) q)

pub changed-retold : (old new : SetImage) (r : List ℕ) → IsKept old new → same_shared old.shared new.shared ≡ true
    → r ≡ retold old.members new.members → AreChanged (bug_in (old ∷ [])) (bug_in (new ∷ [])) r
changed-retold old new r h alike e =
    changed-are (old ∷ []) (new ∷ []) (has (numbers_of new.members)) r (absent old new h)
    (subst IsAscending (sym e) (ascending-retold old.members new.members h.ascending))
    (λ n. ap (λ z. has z n) e ∙ each n (has (numbers_of new.members) n) refl)
  where
    only : (a b : Bool) → b ≡ true → not a ≡ not (a && (b && true))
    only true true w = refl
    only true false w = absurd (false≢true w)
    only false b w = refl

    each : (n : ℕ) (t : Bool) → has (numbers_of new.members) n ≡ t
        → has (retold old.members new.members) n ≡ (has (numbers_of new.members) n && differs (old ∷ []) (new ∷ []) n)
    each n false q = none-retold old.members new.members n q ∙ sym (ap (λ t. t && differs (old ∷ []) (new ∷ []) n) q)
    each n true q =
        let t = told old.members new.members h.numbers h.ascending n q in
        t.4 ∙ only (same_texts t.0 t.1) (same_shared old.shared new.shared) alike ∙ sym (differ old new h n t)
        ∙ sym (ap (λ t. t && differs (old ∷ []) (new ∷ []) n) q)

-- the same of lists whose first images are so, and whose others are found equal
pub changed-in_first : (olds news : List SetImage) (o n : SetImage) (os ns : List SetImage) → olds ≡ o ∷ os
    → news ≡ n ∷ ns → IsKept o n → same_images os ns ≡ true → (r : List ℕ)
    → AreChanged (bug_in (o ∷ [])) (bug_in (n ∷ [])) r → AreChanged (bug_in olds) (bug_in news) r
changed-in_first olds news o n os ns e f h same r are =
    subst (λ z. AreChanged (bug_in z) (bug_in news) r) (sym e)
    (subst (λ z. AreChanged (bug_in (o ∷ os)) (bug_in z) r) (sym f)
    (subst (λ z. AreChanged (bug_in (o ∷ os)) (bug_in (n ∷ z)) r) (images-same os ns same) (changed-first o n os r h are)))

-- a text is equal to itself, and so no member differs from itself
never-retold : (ms : List Member) → [] ≡ retold ms ms
never-retold [] = refl
never-retold (m ∷ ms) =
    never-retold ms
    ∙ ap (λ t. cond t (retold ms ms) (m.number ∷ retold ms ms))
    (sym (λ j. (bytes_eq-Decides m.title m.title).1 refl j && (bytes_eq-Decides m.submitter m.submitter).1 refl j))

pub alike-kept : (old new : SetImage) → old.members ≡ new.members → ascends None (numbers_of new.members) ≡ true → IsKept old new
alike-kept old new e a = record { numbers = ap numbers_of e; ascending = ascending-from (numbers_of new.members) a }

-- what differs where the members are the same
pub changed-none : (old new : SetImage) → old.members ≡ new.members → ascends None (numbers_of new.members) ≡ true
    → same_shared old.shared new.shared ≡ true → AreChanged (bug_in (old ∷ [])) (bug_in (new ∷ [])) []
changed-none old new e a alike =
    changed-retold old new [] (alike-kept old new e a) alike (never-retold old.members ∙ ap (retold old.members) e)
