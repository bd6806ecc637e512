-- The router's walk over rows: along the bytes that stand for themselves, and over a parameter.
use Rattle.std.proofs.Common.{◌≡◌, ℕ, zero, suc, ◌-◌, Bool, true, false, cond, List, [], ◌∷◌, ◌++◌, length, drop, Option, Some, None, refl, sym, ap, ◌∙◌, subst, arith, ltb, ◌==◌}
use Rattle.std.specs.Prelude.{◌&&◌}
use Rattle.std.proofs.lemmas.Bool.{and_parts, ltb-true}
use Rattle.std.proofs.lemmas.Bool.Decides.{nat_tests}
use Rattle.matchit.specs.Rows.{RowsOf, param_token, catch_all_token}
use Rattle.matchit.specs.Seek.{step, or_else, seek, param_step, has_slash}

-- bytes alone
abbrev pub is_text : List ℕ → Bool
is_text [] = true
is_text (x ∷ w) = ltb x param_token && is_text w

module _ {K : Type 0} where
  pub or_else-none : (a : Option K) → or_else a None ≡ a
  or_else-none None = refl
  or_else-none (Some k) = refl

  pub param_step-empty : (p : List ℕ) → (param_step {K = K} [] p).1 ≡ []
  unfolding param_step
  param_step-empty p = by (has_slash p)
    where
      by : (v : Bool) → (cond {A = ℕ × RowsOf K} v (0, []) (length p, [])).1 ≡ []
      by true = refl
      by false = refl

  pub seek-empty : (k : ℕ) (p : List ℕ) → seek {K = K} k [] p ≡ None
  unfolding seek
  seek-empty k [] = refl
  seek-empty (suc k) (b ∷ p) = seek-empty k p
  seek-empty zero (b ∷ p) =
      simp (seek-empty 0 p, param_step-empty (b ∷ p), seek-empty (((param_step {K = K} [] (b ∷ p)).0) - 1) p)

  pub seek-drop : (k : ℕ) (r : RowsOf K) (p : List ℕ) → seek k r p ≡ seek 0 r (drop k p)
  unfolding seek
  seek-drop zero r p = refl
  seek-drop (suc k) r [] = refl
  seek-drop (suc k) r (b ∷ p) = seek-drop k r p

  -- a byte of the path where no row goes on with a parameter
  seek-byte : (r : RowsOf K) (b : ℕ) (p : List ℕ) → step param_token r ≡ [] → step catch_all_token r ≡ []
      → seek 0 r (b ∷ p) ≡ seek 0 (step b r) p
  unfolding seek
  seek-byte r b p e f =
      simp (e, f, param_step-empty (b ∷ p), seek-empty ((param_step {K = K} [] (b ∷ p)).0 - 1) p, or_else-none)

  abbrev pub is_none : RowsOf K → Bool
  is_none [] = true
  is_none (x ∷ r) = false

  none_is : (r : RowsOf K) → is_none r ≡ true → r ≡ []
  none_is [] e = refl
  none_is (x ∷ r) e = cc

  -- no row goes on with a parameter
  abbrev pub is_literal : RowsOf K → Bool
  is_literal r = is_none (step param_token r) && is_none (step catch_all_token r)

  pub seek-literal : (r : RowsOf K) (b : ℕ) (p : List ℕ) → is_literal r ≡ true → seek 0 r (b ∷ p) ≡ seek 0 (step b r) p
  seek-literal r b p e =
      let both = and_parts (is_none (step param_token r)) (is_none (step catch_all_token r)) e in
      seek-byte r b p (none_is (step param_token r) both.0) (none_is (step catch_all_token r) both.1)

  -- the rows that go on after these bytes, and that none has a parameter before
  abbrev pub steps : List ℕ → RowsOf K → RowsOf K
  steps [] r = r
  steps (x ∷ w) r = steps w (step x r)

  abbrev pub is_literal_along : List ℕ → RowsOf K → Bool
  is_literal_along [] r = true
  is_literal_along (x ∷ w) r = is_literal r && is_literal_along w (step x r)

  pub seek-along : (w : List ℕ) (r : RowsOf K) (p : List ℕ) → is_literal_along w r ≡ true → seek 0 r (w ++ p) ≡ seek 0 (steps w r) p
  seek-along [] r p e = refl
  seek-along (x ∷ w) r p e =
      let both = and_parts (is_literal r) (is_literal_along w (step x r)) e in
      seek-literal r x (w ++ p) both.0 ∙ seek-along w (step x r) p both.1

  -- ---- one row of many

  -- none of these rows goes on as far as this text does, nor has a parameter before it ends
  abbrev pub are_apart : List ℕ → RowsOf K → Bool
  are_apart [] r = is_none r
  are_apart (x ∷ w) r = ltb x param_token && (is_literal r && are_apart w (step x r))

  row_literal : (x : ℕ) (t : List ℕ) (k : K) (r : RowsOf K) → ltb x param_token ≡ true → is_literal r ≡ true → is_literal ((x ∷ t, k) ∷ r) ≡ true
  row_literal x t k r e f =
      let below = ltb-true x param_token e in
      let a : (x == param_token) ≡ false = grind (arith, nat_tests) in
      let b : (x == catch_all_token) ≡ false = grind (arith, nat_tests) in
      rw (a, b) f

  pub one_of : (w t : List ℕ) (k : K) (r : RowsOf K) (p : List ℕ) → are_apart w r ≡ true
      → seek 0 ((w ++ t, k) ∷ r) p ≡ or_else (seek 0 ((w ++ t, k) ∷ []) p) (seek 0 r p)
  unfolding seek
  one_of [] t k r p e =
      rw (none_is r e, seek-empty 0 p, or_else-none) refl
  one_of (x ∷ w) t k r [] e = refl
  one_of (x ∷ w) t k r (b ∷ p) e =
      let parts = and_parts (ltb x param_token) (is_literal r && are_apart w (step x r)) e in
      let rest = and_parts (is_literal r) (are_apart w (step x r)) parts.1 in
      let all = seek-literal ((x ∷ (w ++ t), k) ∷ r) b p (row_literal x (w ++ t) k r parts.0 rest.0) in
      let one = seek-literal ((x ∷ (w ++ t), k) ∷ []) b p (row_literal x (w ++ t) k [] parts.0 refl) in
      let others = seek-literal r b p rest.0 in
      all ∙ by (x == b) refl (one_of w t k (step x r) p rest.1)
      ∙ sym (ap (λ (o : Option K). or_else o (seek 0 r (b ∷ p))) one ∙ ap (λ (o : Option K). or_else (seek 0 (step b ((x ∷ (w ++ t), k) ∷ [])) p) o) others)
    where
      by : (v : Bool) → (x == b) ≡ v
          → seek 0 ((w ++ t, k) ∷ step x r) p ≡ or_else (seek 0 ((w ++ t, k) ∷ []) p) (seek 0 (step x r) p)
          → seek 0 (step b ((x ∷ (w ++ t), k) ∷ r)) p ≡ or_else (seek 0 (step b ((x ∷ (w ++ t), k) ∷ [])) p) (seek 0 (step b r) p)
      by true is more =
          let xb : x ≡ b = grind (arith, nat_tests) in
          rw is (subst (λ (y : ℕ). seek 0 ((w ++ t, k) ∷ step y r) p ≡ or_else (seek 0 ((w ++ t, k) ∷ []) p) (seek 0 (step y r) p)) xb more)
      by false is more = rw (is, seek-empty 0 p) refl

  -- a row is found where the path begins with its bytes
  pub row_begins : (w t : List ℕ) (k : K) (p : List ℕ) (found : K) → is_text w ≡ true → seek 0 ((w ++ t, k) ∷ []) p ≡ Some found
      → (rest : List ℕ) × (p ≡ w ++ rest) × (seek 0 ((t, k) ∷ []) rest ≡ Some found)
  unfolding seek
  row_begins [] t k p found e h = (p, refl, h)
  row_begins (x ∷ w) t k [] found e h = cc
  row_begins (x ∷ w) t k (b ∷ p) found e h =
      let parts = and_parts (ltb x param_token) (is_text w) e in
      let one = seek-literal ((x ∷ (w ++ t), k) ∷ []) b p (row_literal x (w ++ t) k [] parts.0 refl) in
      by (x == b) refl (sym one ∙ h) (row_begins w t k p found parts.1)
    where
      by : (v : Bool) → (x == b) ≡ v → seek 0 (cond (x == b) ((w ++ t, k) ∷ []) []) p ≡ Some found
          → (seek 0 ((w ++ t, k) ∷ []) p ≡ Some found
          → (rest : List ℕ) × (p ≡ w ++ rest) × (seek 0 ((t, k) ∷ []) rest ≡ Some found))
          → (rest : List ℕ) × (b ∷ p ≡ (x ∷ w) ++ rest) × (seek 0 ((t, k) ∷ []) rest ≡ Some found)
      by true is h more =
          let xb : x ≡ b = grind (arith, nat_tests) in
          let m = more (rw is at h) in
          (m.0, (λ i. sym xb i ∷ m.1 i), m.2)
      by false is h more =
          let none = rw (is, seek-empty 0 p) at h in
          cc

  -- a row that ends here is found at the path's end
  pub row_ends : (k found : K) (p : List ℕ) → seek 0 (([], k) ∷ []) p ≡ Some found → (p ≡ []) × (k ≡ found)
  unfolding seek
  row_ends k found [] h = (refl, cc)
  row_ends k found (b ∷ p) h =
      let none = rw (seek-literal (([], k) ∷ []) b p refl, seek-empty 0 p) at h in
      cc
