-- Whether the marks of images stand already, one image after another.
use Rattle.std.proofs.Common.{◌≡◌, ℕ, suc, zero, ◌+◌, ◌<◌, ◌≤◌, length, take, get_or, Bool, true, false, ◌&&◌, List, [], ◌∷◌, ◌++◌, Result, Ok, refl, sym, ap, ◌∙◌, arith}
use Rattle.std.proofs.lemmas.Grind.{common_steps}
use Rattle.bug_record.specs.declared.bug.SetImage.{SetImage}
use Rattle.base_faults.specs.declared.store_fault.StoreFault.{StoreFault}
use Rattle.table_content.specs.Changes.{keeps_marks, all_stay}
use Rattle.table_content.specs.Content.{Content}

abbrev pub answered : Bool → Result Bool StoreFault
answered stay = Ok stay

module _ (c : Content) where
  also : (is : List SetImage) (i : SetImage) → all_stay c is ≡ true → keeps_marks c i ≡ true → all_stay c (is ++ i ∷ []) ≡ true
  also [] i stay one = rw one refl
  also (j ∷ is) i stay one = both (keeps_marks c j) stay (λ rest. also is i rest one)
    where
      both : (b : Bool) → (b && all_stay c is) ≡ true → (all_stay c is ≡ true → all_stay c (is ++ i ∷ []) ≡ true) → (b && all_stay c (is ++ i ∷ [])) ≡ true
      both true rest more = more rest
      both false rest more = rest

  -- and one more does
  pub one_stays : (is : List SetImage) (at : ℕ) (i : SetImage) → at < length is → i ≡ get_or is at i → all_stay c (take at is) ≡ true → keeps_marks c i ≡ true → all_stay c (take (at + 1) is) ≡ true
  one_stays is at i low here stay one =
      let next : take (at + 1) is ≡ take at is ++ get_or is at i ∷ [] = grind (arith, common_steps) in
      rw (next, sym here) (also (take at is) i stay one)

  -- one of them does not
  pub one_differs : (is : List SetImage) (at : ℕ) (i : SetImage) → at < length is → i ≡ get_or is at i → keeps_marks c i ≡ false → all_stay c is ≡ false
  one_differs [] at i low here one = absurd (omega (arith, low))
  one_differs (j ∷ is) zero i low here one = first (keeps_marks c j) (sym (ap (keeps_marks c) here) ∙ one)
    where
      first : (b : Bool) → b ≡ false → (b && all_stay c is) ≡ false
      first b is = rw is refl
  one_differs (j ∷ is) (suc at) i low here one = later (keeps_marks c j) (one_differs is at i (omega (arith, low)) here one)
    where
      later : (b : Bool) → all_stay c is ≡ false → (b && all_stay c is) ≡ false
      later true more = more
      later false more = refl

  -- all of them do
  pub each_stays : (is : List SetImage) (at : ℕ) → length is ≤ at → all_stay c (take at is) ≡ true → all_stay c is ≡ true
  each_stays is at past stay = let whole : take at is ≡ is = grind (arith, common_steps) in sym (ap (all_stay c) whole) ∙ stay
