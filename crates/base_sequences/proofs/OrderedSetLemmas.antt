-- Lists in a total order whose items stand once: what is in them, and that two of the same items
-- are one.
use Rattle.std.proofs.Common.{◌≡◌, Bool, true, false, cond, ◌||◌, ◌&&◌, List, [], ◌∷◌, ◌++◌, sym, refl, ap, ◌∙◌, subst}
use Rattle.std.specs.Prelude.{not, filter}
use Rattle.std.specs.BTreeSet.{insert_key}
use Rattle.std.specs.Cmp.{IsEquivalence, IsTotalOrder}
use Rattle.std.specs.Ordering.{is_eq, eq_by_cmp, match_ordering, ordering_reverse}
use Rattle.std.specs.List.{AllByRecursion, list_any}
use Rattle.std.specs.List.Sorted.{IsStrictlySortedBy}
use Rattle.std.proofs.lemmas.Bool.{false≢true, or_right}
use Rattle.std.specs.declared.cmp.Ordering.{Ordering}
use Rattle.std.specs.declared.cmp.Ordering.TheVariants.{Less, Equal, Greater}
use Rattle.base_sequences.specs.Ordered.{ordered_set, with_each}
use Rattle.base_sequences.specs.Sets.{Each}

pub each-filter : {T : Type 0} (P : T → Type 0) (test : T → Bool) (xs : List T) → Each P xs → Each P (filter test xs)
each-filter P test [] h = tt
each-filter P test (x ∷ xs) h =
    elim (test x) as (λ t. Each P (cond t (x ∷ filter test xs) (filter test xs)))
    [ true ↦ (h.0, each-filter P test xs h.1) | false ↦ each-filter P test xs h.1 ]

-- whether x is in a list
abbrev in_list : {T : Type 0} → (T → T → Bool) → List T → T → Bool
in_list same xs x = list_any (same x) xs

pub in-append : {T : Type 0} (same : T → T → Bool) (xs ys : List T) (m : T)
    → in_list same (xs ++ ys) m ≡ (in_list same xs m || in_list same ys m)
in-append same [] ys m = refl
in-append same (x ∷ xs) ys m =
    ap (λ t. same m x || t) (in-append same xs ys m) ∙ grouped (same m x) (in_list same xs m) (in_list same ys m)
  where
    grouped : (a b c : Bool) → (a || (b || c)) ≡ ((a || b) || c)
    grouped true b c = refl
    grouped false b c = refl

module _ {T : Type 0} {R : T → T → Ordering} (o : IsTotalOrder R) where
  -- items above k
  abbrev AllAfter : T → List T → Type 0
  AllAfter k xs = AllByRecursion (λ m. R k m ≡ Less) xs

  after-insert : (k n : T) (xs : List T) → AllAfter k xs → R k n ≡ Less → AllAfter k (insert_key R xs n)
  after-insert k n [] h e = (e, tt)
  after-insert k n (m ∷ xs) h e =
      elim (R n m) as (λ r. AllAfter k (match_ordering r (n ∷ m ∷ xs) (m ∷ xs) (m ∷ insert_key R xs n)))
      [ Less ↦ (e, h) | Equal ↦ h | Greater ↦ (h.0, after-insert k n xs h.1 e) ]

  after-lower : (k n : T) (xs : List T) → R k n ≡ Less → AllAfter n xs → AllAfter k xs
  after-lower k n [] e h = tt
  after-lower k n (m ∷ xs) e h = (o.trans k n m e h.0, after-lower k n xs e h.1)

  turned : (n m : T) → R n m ≡ Greater → R m n ≡ Less
  turned n m e = o.antisymm m n ∙ ap ordering_reverse e

  pub sorted-insert : (xs : List T) (n : T) → IsStrictlySortedBy R xs → IsStrictlySortedBy R (insert_key R xs n)
  unfolding IsStrictlySortedBy
  sorted-insert [] n h = (tt, tt)
  sorted-insert (m ∷ xs) n h =
      elim (R n m) as (λ r. R n m ≡ r
      → IsStrictlySortedBy R (match_ordering r (n ∷ m ∷ xs) (m ∷ xs) (m ∷ insert_key R xs n))) [
        | Less ↦ λ e. ((e, after-lower n m xs e h.0), h)
        | Equal ↦ λ e. h
        | Greater ↦ λ e. (after-insert m n xs h.0 (turned n m e), sorted-insert xs n h.1)
      ] refl

  pub sorted-set : (xs : List T) → IsStrictlySortedBy R (ordered_set R xs)
  unfolding IsStrictlySortedBy
  sorted-set [] = tt
  sorted-set (n ∷ xs) = sorted-insert (ordered_set R xs) n (sorted-set xs)

  pub sorted-each : (xs set : List T) → IsStrictlySortedBy R set → IsStrictlySortedBy R (with_each R set xs)
  sorted-each [] set h = h
  sorted-each (x ∷ xs) set h = sorted-each xs (insert_key R set x) (sorted-insert set x h)

  pub each-insert : (P : T → Type 0) (xs : List T) (n : T) → Each P xs → P n → Each P (insert_key R xs n)
  each-insert P [] n h v = (v, tt)
  each-insert P (m ∷ xs) n h v =
      elim (R n m) as (λ r. Each P (match_ordering r (n ∷ m ∷ xs) (m ∷ xs) (m ∷ insert_key R xs n)))
      [ Less ↦ (v, h) | Equal ↦ h | Greater ↦ (h.0, each-insert P xs n h.1 v) ]

  pub each-set : (P : T → Type 0) (xs : List T) → Each P xs → Each P (ordered_set R xs)
  each-set P [] h = tt
  each-set P (n ∷ xs) h = each-insert P (ordered_set R xs) n (each-set P xs h.1) h.0

  module _ {same : T → T → Bool} (e : IsEquivalence same) (ties : (x y : T) → same x y ≡ eq_by_cmp R x y) where
    -- items that compare as equal are the same to each item
    alike : (m n k : T) → R n k ≡ Equal → same m k ≡ same m n
    alike m n k q = e.symm m k ∙ sym (e.congr n k m (ties n k ∙ ap is_eq q)) ∙ e.symm n m

    -- what is in a set with one more
    pub in-insert : (xs : List T) (n m : T) → in_list same (insert_key R xs n) m ≡ (in_list same xs m || same m n)
    in-insert [] n m = elim (same m n) as (λ t. (t || false) ≡ t) [ true ↦ refl | false ↦ refl ]
    in-insert (k ∷ xs) n m =
        elim (R n k) as (λ r. R n k ≡ r
        → in_list same (match_ordering r (n ∷ k ∷ xs) (k ∷ xs) (k ∷ insert_key R xs n)) m
        ≡ ((same m k || in_list same xs m) || same m n)) [
          | Less ↦ λ q. exchanged (same m k) (in_list same xs m) (same m n)
          | Equal ↦ λ q. again (same m k) (in_list same xs m) (same m n) (alike m n k q)
          | Greater ↦ λ q. ap (λ b. same m k || b) (in-insert xs n m)
              ∙ regrouped (same m k) (in_list same xs m) (same m n)
        ] refl
      where
        regrouped : (a b c : Bool) → (a || (b || c)) ≡ ((a || b) || c)
        regrouped true b c = refl
        regrouped false b c = refl

        again : (a b c : Bool) → a ≡ c → (a || b) ≡ ((a || b) || c)
        again true b c q = refl
        again false true c q = refl
        again false false c q = q

        exchanged : (a b c : Bool) → (c || (a || b)) ≡ ((a || b) || c)
        exchanged true b true = refl
        exchanged true b false = refl
        exchanged false true true = refl
        exchanged false true false = refl
        exchanged false false true = refl
        exchanged false false false = refl

    -- what is in the set of a list
    pub in-set : (xs : List T) (m : T) → in_list same (ordered_set R xs) m ≡ in_list same xs m
    in-set [] m = refl
    in-set (n ∷ xs) m =
        in-insert (ordered_set R xs) n m ∙ ap (λ t. t || same m n) (in-set xs m)
        ∙ exchanged (in_list same xs m) (same m n)
      where
        exchanged : (a b : Bool) → (a || b) ≡ (b || a)
        exchanged true true = refl
        exchanged true false = refl
        exchanged false true = refl
        exchanged false false = refl

    -- what is in a set with all items of a list
    pub in-each : (xs set : List T) (m : T) → in_list same (with_each R set xs) m ≡ (in_list same set m || in_list same xs m)
    in-each [] set m = none (in_list same set m)
      where
        none : (a : Bool) → a ≡ (a || false)
        none true = refl
        none false = refl
    in-each (x ∷ xs) set m =
        in-each xs (insert_key R set x) m ∙ ap (λ t. t || in_list same xs m) (in-insert set x m)
        ∙ group (in_list same set m) (same m x) (in_list same xs m)
      where
        group : (a b c : Bool) → ((a || b) || c) ≡ (a || (b || c))
        group true b c = refl
        group false b c = refl

    -- what is in a set with one less
    pub in-without : (xs : List T) (n m : T)
        → in_list same (filter (λ x. not (same n x)) xs) m ≡ (in_list same xs m && not (same n m))
    in-without [] n m = refl
    in-without (k ∷ xs) n m =
        elim (same n k) as (λ t. same n k ≡ t
        → in_list same (cond (not t) (k ∷ filter (λ x. not (same n x)) xs) (filter (λ x. not (same n x)) xs)) m
        ≡ ((same m k || in_list same xs m) && not (same n m))) [
          | true ↦ λ q. in-without xs n m
              ∙ gone (same m k) (in_list same xs m) (same n m)
              (e.symm m k ∙ sym (e.congr n k m q))
          | false ↦ λ q. ap (λ b. same m k || b) (in-without xs n m)
              ∙ stays (same m k) (in_list same xs m) (same n m)
              (λ p. sym (e.congr m k n p ∙ e.symm k n ∙ q) ∙ e.symm m n)
        ] refl
      where
        gone : (a b c : Bool) → a ≡ c → (b && not c) ≡ ((a || b) && not c)
        gone true true true q = refl
        gone true false true q = refl
        gone true b false q = absurd (false≢true (sym q))
        gone false b c q = refl

        stays : (a b c : Bool) → (a ≡ true → false ≡ c) → (a || (b && not c)) ≡ ((a || b) && not c)
        stays true b true h = absurd (false≢true (h refl))
        stays true b false h = refl
        stays false b c h = refl

    module _ (one : (x y : T) → same x y ≡ true → x ≡ y) where
      -- an item that is in a list after k is after k
      in-after : (xs : List T) (k m : T) → AllAfter k xs → in_list same xs m ≡ true → R k m ≡ Less
      in-after [] k m h q = absurd (false≢true q)
      in-after (n ∷ xs) k m h q =
          elim (same m n) as (λ t. same m n ≡ t → (t || in_list same xs m) ≡ true → R k m ≡ Less) [
            | true ↦ λ p q. subst (λ (z : T). R k z ≡ Less) (sym (one m n p)) h.0
            | false ↦ λ p q. in-after xs k m h.1 q
          ] refl q

      abbrev is_less : Ordering → Bool
      is_less Less = true
      is_less Equal = false
      is_less Greater = false

      not-after_itself : (n : T) → R n n ≡ Less → ⊥
      not-after_itself n q = both (R n n) q (o.antisymm n n)
        where
          both : (r : Ordering) → r ≡ Less → r ≡ ordering_reverse r → ⊥
          both Less q p = false≢true (sym (ap is_less p))
          both Equal q p = false≢true (ap is_less q)
          both Greater q p = false≢true (ap is_less q)

      -- two strictly sorted lists of the same items are one
      pub same-sorted : (xs ys : List T) → IsStrictlySortedBy R xs → IsStrictlySortedBy R ys
          → ((n : T) → in_list same xs n ≡ in_list same ys n) → xs ≡ ys
      unfolding IsStrictlySortedBy
      same-sorted [] [] a b h = refl
      same-sorted [] (y ∷ ys) a b h = absurd (false≢true (h y ∙ ap (λ t. t || in_list same ys y) (e.refl y)))
      same-sorted (x ∷ xs) [] a b h = absurd (false≢true (sym (h x) ∙ ap (λ t. t || in_list same xs x) (e.refl x)))
      same-sorted (x ∷ xs) (y ∷ ys) a b h =
          let head : x ≡ y = first (same x y) refl in
          ap (λ (z : T). z ∷ xs) head
          ∙ ap (λ zs. y ∷ zs) (same-sorted xs ys a.1 b.1 (λ m. rest head m (in_list same xs m) (in_list same ys m) refl refl))
        where
          -- of two items that differ, each would be after the other
          after : (z k : T) (zs : List T) → AllAfter k zs → in_list same (k ∷ zs) z ≡ true → same z k ≡ false
              → R k z ≡ Less
          after z k zs s p q = in-after zs k z s (sym (ap (λ t. t || in_list same zs z) q) ∙ p)

          first : (t : Bool) → same x y ≡ t → x ≡ y
          first true q = one x y q
          first false q =
              let below : R y x ≡ Less = after x y ys b.0 (sym (h x) ∙ ap (λ t. t || in_list same xs x) (e.refl x)) q in
              let above : R x y ≡ Less =
              after y x xs a.0 (h y ∙ ap (λ t. t || in_list same ys y) (e.refl y)) (e.symm y x ∙ q) in
              absurd (not-after_itself x (o.trans x y x above below))

          -- an item in the rest of one list is after the first, so it is in the rest of the other
          lost : (k m : T) (zs ws : List T) → AllAfter k zs → in_list same zs m ≡ true → in_list same (k ∷ ws) m ≡ true
              → in_list same ws m ≡ false → ⊥
          lost k m zs ws s p i q =
              elim (same m k) as (λ t. same m k ≡ t → (t || in_list same ws m) ≡ true → ⊥) [
                | true ↦ λ r i. not-after_itself k (subst (λ (z : T). R k z ≡ Less) (one m k r) (in-after zs k m s p))
                | false ↦ λ r i. false≢true (sym q ∙ i)
              ] refl i

          rest : x ≡ y → (m : T) (s t : Bool) → in_list same xs m ≡ s → in_list same ys m ≡ t → s ≡ t
          rest head m true true p q = refl
          rest head m false false p q = refl
          rest head m true false p q =
              absurd (lost y m xs ys (subst (λ (z : T). AllAfter z xs) head a.0) p
              (sym (h m) ∙ or_right (same m x) (in_list same xs m) p) q)
          rest head m false true p q =
              absurd (lost x m ys xs (subst (λ (z : T). AllAfter z ys) (sym head) b.0) q
              (h m ∙ or_right (same m y) (in_list same ys m) q) p)

      -- the set of a list, and of two lists, whose items are added one by one
      pub each-is_set : (xs : List T) → with_each R [] xs ≡ ordered_set R xs
      unfolding IsStrictlySortedBy
      each-is_set xs =
          same-sorted (with_each R [] xs) (ordered_set R xs) (sorted-each xs [] tt) (sorted-set xs)
          (λ m. in-each xs [] m ∙ sym (in-set xs m))

      pub each-append : (ms xs : List T) → with_each R (ordered_set R ms) xs ≡ ordered_set R (ms ++ xs)
      each-append ms xs =
          same-sorted (with_each R (ordered_set R ms) xs) (ordered_set R (ms ++ xs))
          (sorted-each xs (ordered_set R ms) (sorted-set ms)) (sorted-set (ms ++ xs))
          (λ m. in-each xs (ordered_set R ms) m ∙ ap (λ t. t || in_list same xs m) (in-set ms m)
          ∙ sym (in-append same ms xs m) ∙ sym (in-set (ms ++ xs) m))
