-- Places that are written into a map, one after another.
use Rattle.std.proofs.Common.{◌≡◌, ℕ, suc, zero, Bool, true, false, not, cond, ◌||◌, eqb, List, [], ◌∷◌, ◌++◌, length, get_or}
use Rattle.std.proofs.Common.{drop, Option, Some, None, sym, refl, ap, ◌∙◌, subst, arith}
use Rattle.std.specs.Prelude.{Result, Ok, Err, IsOk, OnErr, is_some, filter, slice_get}
use Rattle.std.specs.Option.{option_or}
use Rattle.std.specs.Prelude.{nat_eq}
use Rattle.std.specs.HashMap.{HashMap, get}
use Rattle.std.proofs.lemmas.Bool.{false≢true, eqb-true, eq-eqb}
use Rattle.std.proofs.lemmas.Option.{none-some, same_Some}
use Rattle.bug_record.specs.Sets.{has}
use Rattle.bug_record.specs.Images.{numbers_of}
use Rattle.bug_record.specs.declared.bug.Member.{Member}
use Rattle.bug_record.specs.declared.bug.SetImage.{SetImage}
use Rattle.store_keys.specs.Keys.{first_number}
use Rattle.store_sets.specs.PlacesOfImages.{place_of, place_in, numbers_in, is_there, is_fresh, IsOnlyPlace}
use Rattle.store_sets.specs.declared.places.Place.{Place}
use Rattle.store_sets.specs.declared.places.Place.TheVariants.{First, After}

cond_same : {A : Type 0} (t : Bool) (x : A) → cond t x x ≡ x
cond_same true x = refl
cond_same false x = refl

-- what holds at a return holds of its errors
pub at_err : {T E : Type 0} (r : Result T E) (P : Type 0) → P → OnErr r P
at_err (Ok x) P h = tt
at_err (Err e) P h = h

-- a call that can't fail leaves nothing at an error
pub on_err_from_ok : {T E : Type 0} (r : Result T E) (P : Type 0) → IsOk r → OnErr r P
on_err_from_ok (Ok x) P h = tt
on_err_from_ok (Err e) P h = absurd (false≢true h)

-- where all members have places, the first has one after the others are written
pub stays_there : {S : Type 0} (bugs now : HashMap ℕ Place S) (ms others : List Member) (first : Member) (k : ℕ)
    → ms ≡ first ∷ others
    → ((n : ℕ) → has (numbers_of ms) n ≡ true → is_there bugs n ≡ true)
    → ((n : ℕ) → get nat_eq now n ≡ cond (has (numbers_of others) n) (Some (After k)) (get nat_eq bugs n))
    → is_there now first.number ≡ true
stays_there bugs now ms others first k is there u = cases (has (numbers_of others) first.number) refl
  where
    cases : (t : Bool) → has (numbers_of others) first.number ≡ t → is_there now first.number ≡ true
    cases true q = ap is_some
        (u first.number ∙ ap (λ t. cond t (Some (After k)) (get nat_eq bugs first.number)) q)
    cases false q =
        let own : has (numbers_of ms) first.number ≡ true =
        ap (λ (z : List Member). has (numbers_of z) first.number) is
        ∙ ap (λ t. t || has (numbers_of others) first.number) (eq-eqb first.number first.number refl) in
        ap is_some (u first.number ∙ ap (λ t. cond t (Some (After k)) (get nat_eq bugs first.number)) q)
        ∙ there first.number own

-- ---- the places v of numbers, written one by one

-- one number more
pub written_more : {S : Type 0} (v : ℕ → Option Place) (bugs more : HashMap ℕ Place S) (numbers rest : List ℕ) (x n : ℕ)
    → numbers ≡ x ∷ rest
    → get nat_eq more n ≡ cond (eqb x n) (v x) (get nat_eq bugs n)
    → cond (has rest n) (v n) (get nat_eq more n) ≡ cond (has numbers n) (v n) (get nat_eq bugs n)
written_more v bugs more numbers rest x n is h =
    ap (cond (has rest n) (v n)) (h ∙ here (eqb x n) refl)
    ∙ (elim (eqb x n) as (λ t. cond (has rest n) (v n) (cond t (v n) old) ≡ cond (t || has rest n) (v n) old)
    [ true ↦ cond_same (has rest n) (v n) | false ↦ refl ]
    ∙ ap (λ ns. cond (has ns n) (v n) old) (sym is))
  where
    old : Option Place
    old = get nat_eq bugs n

    here : (t : Bool) → eqb x n ≡ t → cond t (v x) old ≡ cond t (v n) old
    here true e = ap v (eqb-true x n e)
    here false e = refl

-- what is left of a list
has-drop : (ns : List ℕ) (k n : ℕ) → has ns n ≡ false → has (drop k ns) n ≡ false
has-drop ns zero n h = h
has-drop [] (suc k) n h = refl
has-drop (m ∷ ns) (suc k) n h = has-drop ns k n (right (eqb m n) (has ns n) h)
  where
    right : (a b : Bool) → (a || b) ≡ false → b ≡ false
    right true b h = absurd (false≢true (sym h))
    right false b h = h

-- the place of another number stays
pub unwritten : {S : Type 0} (v : ℕ → Option Place) (bugs now : HashMap ℕ Place S) (numbers : List ℕ) (k n : ℕ)
    → cond (has (drop k numbers) n) (v n) (get nat_eq now n) ≡ cond (has numbers n) (v n) (get nat_eq bugs n)
    → has numbers n ≡ false → get nat_eq now n ≡ get nat_eq bugs n
unwritten v bugs now numbers k n h e =
    sym (ap (λ t. cond t (v n) (get nat_eq now n)) (has-drop numbers k n e))
    ∙ (h ∙ ap (λ t. cond t (v n) (get nat_eq bugs n)) e)

-- ---- images, from the last to the first

option_or-assoc : {A : Type 0} (a b c : Option A) → option_or (option_or a b) c ≡ option_or a (option_or b c)
option_or-assoc (Some x) b c = refl
option_or-assoc None b c = refl

option_or-some : {A : Type 0} (a b : Option A) → is_some b ≡ true → is_some (option_or a b) ≡ true
option_or-some (Some x) b h = refl
option_or-some None b h = h

option_or-left : {A : Type 0} (a b : Option A) → is_some a ≡ true → is_some (option_or a b) ≡ true
option_or-left (Some x) b h = refl
option_or-left None b h = absurd (false≢true h)

place_in-append : (xs ys : List SetImage) (n : ℕ) → place_in (xs ++ ys) n ≡ option_or (place_in xs n) (place_in ys n)
place_in-append [] ys n = refl
place_in-append (i ∷ xs) ys n =
    elim (has (numbers_of i.members) n) as
    (λ t. cond t (Some (place_of i n)) (place_in (xs ++ ys) n) ≡ option_or (cond t (Some (place_of i n)) (place_in xs n))
    (place_in ys n))
    [ true ↦ refl | false ↦ place_in-append xs ys n ]

-- each bug of the images has a place
abbrev pub AreThere : {S : Type 0} → HashMap ℕ Place S → List SetImage → Type 0
AreThere bugs is = (n : ℕ) → is_some (place_in is n) ≡ true → is_there bugs n ≡ true

-- Of the images `all`, which are put into the map `old`, `rest` are left to put into `now`.
pub record IsPutting {S : Type 0} (old : HashMap ℕ Place S) (all : List SetImage) (now : HashMap ℕ Place S)
    (rest : List SetImage) : Type 0 where
  pub goes_on : (n : ℕ) → option_or (place_in rest n) (get nat_eq now n) ≡ option_or (place_in all n) (get nat_eq old n)
  pub there : AreThere old all → AreThere now rest

-- the bugs of the last image have a place
pub last-there : {S : Type 0} (bugs : HashMap ℕ Place S) (is rest : List SetImage) (i : SetImage) → is ≡ rest ++ i ∷ []
    → AreThere bugs is
    → (n : ℕ) → has (numbers_of i.members) n ≡ true → is_there bugs n ≡ true
last-there bugs is rest i e h n own =
    h n (ap (λ (w : List SetImage). is_some (place_in w n)) e ∙ (ap is_some (place_in-append rest (i ∷ []) n)
    ∙ option_or-some (place_in rest n) (place_in (i ∷ []) n) (ap (λ t. is_some (cond t (Some (place_of i n)) None)) own)))

-- one image more is in
pub putting_more : {S : Type 0} (old : HashMap ℕ Place S) (all : List SetImage) (now more : HashMap ℕ Place S) (is rest : List SetImage)
    (i : SetImage)
    → is ≡ rest ++ i ∷ [] → IsPutting old all now is
    → ((n : ℕ) → get nat_eq more n ≡ option_or (place_in (i ∷ []) n) (get nat_eq now n)) → IsPutting old all more rest
putting_more old all now more is rest i e p h = record {
  goes_on =
      λ n. ap (option_or (place_in rest n)) (h n)
      ∙ (sym (option_or-assoc (place_in rest n) (place_in (i ∷ []) n) (get nat_eq now n))
      ∙ (ap (λ o. option_or o (get nat_eq now n)) (sym (parts n)) ∙ p.goes_on n));
  there =
      λ w n k. ap is_some (h n)
      ∙ option_or-some (place_in (i ∷ []) n) (get nat_eq now n) (p.there w n (ap is_some (parts n)
      ∙ option_or-left (place_in rest n) (place_in (i ∷ []) n) k));
}
  where
    parts : (n : ℕ) → place_in is n ≡ option_or (place_in rest n) (place_in (i ∷ []) n)
    parts n = ap (λ (w : List SetImage). place_in w n) e ∙ place_in-append rest (i ∷ []) n

-- ---- new numbers first

has-append : (xs ys : List ℕ) (n : ℕ) → has (xs ++ ys) n ≡ (has xs n || has ys n)
has-append [] ys n = refl
has-append (x ∷ xs) ys n = ap (λ t. eqb x n || t) (has-append xs ys n) ∙ group (eqb x n) (has xs n) (has ys n)
  where
    group : (a b c : Bool) → (a || (b || c)) ≡ ((a || b) || c)
    group true b c = refl
    group false b c = refl

-- the bugs that have a place in images are those of their numbers
place_in-has : (is : List SetImage) (n : ℕ) → is_some (place_in is n) ≡ has (numbers_in is) n
place_in-has [] n = refl
place_in-has (i ∷ is) n =
    elim (has (numbers_of i.members) n) as
    (λ t. is_some (cond t (Some (place_of i n)) (place_in is n)) ≡ (t || has (numbers_in is) n))
    [ true ↦ refl | false ↦ place_in-has is n ]
    ∙ sym (has-append (numbers_of i.members) (numbers_in is) n)

has-filter : (p : ℕ → Bool) (xs : List ℕ) (n : ℕ) → has (filter p xs) n ≡ cond (p n) (has xs n) false
has-filter p [] n = sym (cond_same (p n) false)
has-filter p (x ∷ xs) n =
    elim (eqb x n) as (λ u. eqb x n ≡ u → has (cond (p x) (x ∷ filter p xs) (filter p xs)) n ≡ cond (p n) (u || has xs n) false) [
      | true ↦ λ e. subst (λ z. has (cond (p x) (x ∷ filter p xs) (filter p xs)) z ≡ cond (p z) true false) (eqb-true x n e)
          (here (has-filter p xs x) (p x) refl)
      | false ↦ λ e. elim (p x) as (λ t. has (cond t (x ∷ filter p xs) (filter p xs)) n ≡ cond (p n) (has xs n) false)
          [ true ↦ ap (λ t. t || has (filter p xs) n) e ∙ has-filter p xs n | false ↦ has-filter p xs n ]
    ] refl
  where
    here : has (filter p xs) x ≡ cond (p x) (has xs x) false → (t : Bool) → p x ≡ t
        → has (cond t (x ∷ filter p xs) (filter p xs)) x ≡ cond (p x) true false
    here more true q = ap (λ t. t || has (filter p xs) x) (eq-eqb x x refl) ∙ sym (ap (λ t. cond t true false) q)
    here more false q = more ∙ (ap (λ t. cond t (has xs x) false) q ∙ sym (ap (λ t. cond t true false) q))

module _ {S : Type 0} (old mid : HashMap ℕ Place S) (is : List SetImage) (fresh : List ℕ)
    (are : fresh ≡ filter (is_fresh old) (numbers_in is)) where
  -- a number is among the fresh ones where an image has it, and it had no place
  fresh-has : (n : ℕ) → has fresh n ≡ cond (not (is_there old n)) (is_some (place_in is n)) false
  fresh-has n =
      ap (λ (w : List ℕ). has w n) are
      ∙ (has-filter (is_fresh old) (numbers_in is) n ∙ ap (λ t. cond (not (is_there old n)) t false) (sym (place_in-has is n)))

  -- with places for them each bug has one
  pub all-there : ((n : ℕ) → get nat_eq mid n ≡ cond (has fresh n) (Some (After n)) (get nat_eq old n)) → AreThere mid is
  all-there h n k =
      ap is_some (h n ∙ ap (λ t. cond t (Some (After n)) (get nat_eq old n)) (fresh-has n))
      ∙ cases (get nat_eq old n) (is_some (place_in is n)) k
    where
      cases : (o : Option Place) (t : Bool) → t ≡ true → is_some (cond (cond (not (is_some o)) t false) (Some (After n)) o) ≡ true
      cases None true k = refl
      cases None false k = absurd (false≢true k)
      cases (Some p) t k = refl

  -- once the images are put, those places are gone
  pub put-over : (now : HashMap ℕ Place S)
      → ((n : ℕ) → get nat_eq mid n ≡ cond (has fresh n) (Some (After n)) (get nat_eq old n))
      → ((n : ℕ) → get nat_eq now n ≡ option_or (place_in is n) (get nat_eq mid n)) → (n : ℕ)
      → get nat_eq now n ≡ option_or (place_in is n) (get nat_eq old n)
  put-over now h w n =
      w n ∙ (ap (option_or (place_in is n)) (h n ∙ ap (λ t. cond t (Some (After n)) (get nat_eq old n)) (fresh-has n))
      ∙ cases (place_in is n) (is_there old n))
    where
      cases : (o : Option Place) (t : Bool)
          → option_or o (cond (cond (not t) (is_some o) false) (Some (After n)) (get nat_eq old n))
          ≡ option_or o (get nat_eq old n)
      cases (Some p) t = refl
      cases None true = refl
      cases None false = refl

  -- where there was no memory for all of them, they are taken out again
  pub taken-out : (after : HashMap ℕ Place S) → ((n : ℕ) → has fresh n ≡ false → get nat_eq mid n ≡ get nat_eq old n)
      → ((n : ℕ) → get nat_eq after n ≡ cond (has fresh n) None (get nat_eq mid n)) → (n : ℕ)
      → get nat_eq after n ≡ get nat_eq old n
  taken-out after others out n = out n ∙ cases (has fresh n) refl
    where
      had_none : (o : Option Place) (t : Bool) → cond (not (is_some o)) t false ≡ true → None ≡ o
      had_none None t h = refl
      had_none (Some p) t h = absurd (false≢true h)

      cases : (t : Bool) → has fresh n ≡ t → cond t None (get nat_eq mid n) ≡ get nat_eq old n
      cases true e = had_none (get nat_eq old n) (is_some (place_in is n)) (sym (fresh-has n) ∙ e)
      cases false e = others n e

-- the number of the first member
pub first-key : (ms : List Member) (m : Member) → slice_get ms 0 ≡ Some m → first_number ms ≡ m.number
first-key [] m h = absurd (none-some m h)
first-key (x ∷ ms) m h = ap (λ (z : Member). z.number) (same_Some _ _ h)

-- the only item of a list
pub one_item : (is : List SetImage) (i : SetImage) → length is ≡ 1 → i ≡ get_or is 0 i → is ≡ i ∷ []
one_item [] i l e = absurd (omega arith)
one_item (j ∷ []) i l e = ap (λ (z : SetImage). z ∷ []) (sym e)
one_item (j ∷ k ∷ is) i l e = absurd (omega arith)

-- an image that is put at its only place
pub only-put : {S : Type 0} (old now : HashMap ℕ Place S) (is : List SetImage) (i copy : SetImage) (key n : ℕ)
    → is ≡ i ∷ [] → copy ≡ i
    → IsOnlyPlace old i key
    → get nat_eq now n ≡ cond (eqb key n) (Some (First copy)) (get nat_eq old n)
    → get nat_eq now n ≡ option_or (place_in is n) (get nat_eq old n)
only-put old now is i copy key n one same only h =
    h ∙ (ap (λ (z : SetImage). cond (eqb key n) (Some (First z)) (get nat_eq old n)) same
    ∙ (sym (only n) ∙ sym (ap (λ (w : List SetImage). option_or (place_in w n) (get nat_eq old n)) one)))
