-- The router's walk over the parameters of the routes.
use Rattle.std.proofs.Common.{◌≡◌, ℕ, zero, suc, ◌-◌, ◌<◌, Bool, true, false, not, cond, List, [], ◌∷◌, ◌++◌, length, drop, Some, None, refl, sym, ap, ◌∙◌, subst, inl, inr, arith, ltb, ◌==◌, nat_eq, length-append, drop_of_length-le}
use Rattle.std.specs.Prelude.{◌&&◌, ◌||◌, ◌⊎◌}
use Rattle.std.specs.List.{list_any, ends_with}
use Rattle.std.specs.Cmp.Lexicographic.{pointwise}
use Rattle.std.proofs.lemmas.Bool.{and_parts, and_from, or_parts, not-true, lt-ltb}
use Rattle.std.proofs.lemmas.Bool.Decides.{nat_tests}
use Rattle.std.proofs.Math.Seq.{drop-append_seam}
use Rattle.matchit.specs.Rows.{RowsOf, param_token, catch_all_token}
use Rattle.matchit.specs.Seek.{seek, param_step, has_slash, segment, cuts, same_text}
use Rattle.matchit.specs.Level.{IsText}
use Rattle.http_routes.specs.Parts.{is_slash}
use Rattle.http_routes.specs.Routes.{is_part, has_bytes}
use Rattle.http_routes.proofs.SeekLemmas.{or_else-none, param_step-empty, seek-empty, seek-drop, seek-literal}

-- ---- slashes

has_slash-any : (path : List ℕ) → has_slash path ≡ list_any is_slash path
has_slash-any [] = refl
has_slash-any (b ∷ path) = by (is_slash b) (has_slash-any path)
  where
    by : (v : Bool) → has_slash path ≡ list_any is_slash path → cond v true (has_slash path) ≡ (v || list_any is_slash path)
    by true e = refl
    by false e = e

pub segment-cut : (part rest : List ℕ) → list_any is_slash part ≡ false → segment (part ++ 47 ∷ rest) ≡ part ++ 47 ∷ []
segment-cut [] rest e = refl
segment-cut (b ∷ part) rest e =
    let both = or_parts (is_slash b) (list_any is_slash part) e in
    rw both.0 (ap (λ (l : List ℕ). b ∷ l) (segment-cut part rest both.1))

-- a path has no slash, or is cut at its first
abbrev pub IsCutAt : List ℕ → List ℕ → List ℕ → Type 0
IsCutAt path part rest = (path ≡ part ++ 47 ∷ rest) × (list_any is_slash part ≡ false)

at_first : (path : List ℕ) → (list_any is_slash path ≡ false) ⊎ ((part : List ℕ) × (rest : List ℕ) × IsCutAt path part rest)
at_first [] = inl refl
at_first (b ∷ path) = by (is_slash b) refl (at_first path)
  where
    by : (v : Bool) → is_slash b ≡ v → (list_any is_slash path ≡ false) ⊎ ((part : List ℕ) × (rest : List ℕ) × IsCutAt path part rest)
        → (list_any is_slash (b ∷ path) ≡ false) ⊎ ((part : List ℕ) × (rest : List ℕ) × IsCutAt (b ∷ path) part rest)
    by true is more =
        let same : b ≡ 47 = grind (arith, nat_tests) in
        inr ([], path, (ap (λ (x : ℕ). x ∷ path) same, refl))
    by false is (inl none) = inl (rw is none)
    by false is (inr (part, rest, cut)) = inr (b ∷ part, rest, (ap (λ (l : List ℕ). b ∷ l) cut.0, rw is cut.1))

-- what follows in a text is one
pub text_after : (w rest : List ℕ) → IsText (w ++ rest) → IsText rest
text_after [] rest text = text
text_after (x ∷ w) rest text = text_after w rest text.1

module _ {K : Type 0} (k : K) where
  -- a byte of a parameter
  param_byte : (t : List ℕ) (b : ℕ) (p : List ℕ) → b < 256
      → seek 0 ((param_token ∷ t, k) ∷ []) (b ∷ p)
      ≡ seek ((param_step ((t, k) ∷ []) (b ∷ p)).0 - 1) ((param_step ((t, k) ∷ []) (b ∷ p)).1) p
  unfolding seek
  param_byte t b p h =
      let other : (param_token == b) ≡ false = grind (arith, nat_tests) in
      rw (other, seek-empty 0 p) (or_else-none _)

  -- ---- a parameter up to the end

  part_step : (path : List ℕ) → param_step (([], k) ∷ []) path ≡ cond (has_slash path) (0, []) (length path, ([], k) ∷ [])
  unfolding param_step
  part_step path = refl

  part_walk : (b : ℕ) (p : List ℕ) → b < 256 → seek 0 ((param_token ∷ [], k) ∷ []) (b ∷ p) ≡ cond (has_slash (b ∷ p)) None (Some k)
  unfolding seek
  part_walk b p h = param_byte [] b p h ∙ rw (part_step (b ∷ p)) (by (has_slash (b ∷ p)))
    where
      by : (v : Bool) → seek ((cond {A = ℕ × RowsOf K} v (0, []) (length (b ∷ p), ([], k) ∷ [])).0 - 1)
          ((cond {A = ℕ × RowsOf K} v (0, []) (length (b ∷ p), ([], k) ∷ [])).1) p ≡ cond v None (Some k)
      by true = seek-empty (0 - 1) p
      by false =
          let gone : drop (length (b ∷ p) - 1) p ≡ [] = drop_of_length-le p (omega arith) in
          seek-drop (length (b ∷ p) - 1) (([], k) ∷ []) p ∙ rw gone refl

  pub part_found : (path : List ℕ) → IsText path → is_part path ≡ true → seek 0 ((param_token ∷ [], k) ∷ []) path ≡ Some k
  part_found [] text good = cc
  part_found (b ∷ p) text good =
      let none : has_slash (b ∷ p) ≡ false = has_slash-any (b ∷ p) ∙ not-true (list_any is_slash (b ∷ p)) good in
      part_walk b p text.0 ∙ rw none refl

  pub part_only : (found : K) (path : List ℕ) → IsText path → seek 0 ((param_token ∷ [], k) ∷ []) path ≡ Some found
      → (is_part path ≡ true) × (k ≡ found)
  unfolding seek
  part_only found [] text h = cc
  part_only found (b ∷ p) text h = by (has_slash (b ∷ p)) refl (sym (part_walk b p text.0) ∙ h)
    where
      by : (v : Bool) → has_slash (b ∷ p) ≡ v → cond (has_slash (b ∷ p)) None (Some k) ≡ Some found
          → (is_part (b ∷ p) ≡ true) × (k ≡ found)
      by true is e = let none = rw is at e in cc
      by false is e =
          let some : Some k ≡ Some found = rw is at e in
          (ap not (sym (has_slash-any (b ∷ p)) ∙ is), cc)

  -- ---- a parameter, a slash and a parameter up to the end

  abbrev pub slash_row : RowsOf K
  slash_row = (47 ∷ catch_all_token ∷ [], k) ∷ []

  rest_walk : (c : ℕ) (v : List ℕ) → c < 256 → seek 0 ((catch_all_token ∷ [], k) ∷ []) (c ∷ v) ≡ Some k
  unfolding seek
  rest_walk c v h =
      let other : (catch_all_token == c) ≡ false = grind (arith, nat_tests) in
      rw (other, seek-empty 0 v, param_step-empty (c ∷ v), seek-empty ((param_step {K = K} [] (c ∷ v)).0 - 1) v) refl

  -- without a slash in the path, none is found
  slash_row-none : (p : List ℕ) → list_any is_slash p ≡ false → seek 0 slash_row p ≡ None
  unfolding seek
  slash_row-none [] e = refl
  slash_row-none (b ∷ p) e =
      let other : (47 == b) ≡ false =
      let this : is_slash b ≡ false = (or_parts (is_slash b) (list_any is_slash p) e).0 in grind (arith, nat_tests) in
      seek-literal slash_row b p refl ∙ rw (other, seek-empty 0 p) refl

  any-drop : (n : ℕ) (p : List ℕ) → list_any is_slash p ≡ false → list_any is_slash (drop n p) ≡ false
  any-drop zero p e = e
  any-drop (suc n) [] e = refl
  any-drop (suc n) (b ∷ p) e = any-drop n p (or_parts (is_slash b) (list_any is_slash p) e).1

  abbrev pub chosen : Bool → List ℕ
  chosen u = cond u (47 ∷ []) []

  -- how far a parameter before a slash goes, by whether its segment ends with one, and the path
  -- has one
  abbrev pub after_param : Bool → Bool → ℕ → ℕ → ℕ × RowsOf K
  after_param u v segment whole =
      cond (ltb 0 (length (chosen u))) (segment - length (chosen u), cond (same_text (47 ∷ []) (chosen u)) slash_row [])
      (cond v (0, []) (whole, slash_row))

  slash_step : (path : List ℕ) → param_step slash_row path
      ≡ after_param (cuts (segment path) (47 ∷ [])) (has_slash path) (length (segment path)) (length path)
  unfolding param_step
  slash_step path = refl

  none_after : (u v : Bool) (segment whole : ℕ) (p : List ℕ) → ((n : ℕ) → seek n slash_row p ≡ None)
      → seek ((after_param u v segment whole).0 - 1) ((after_param u v segment whole).1) p ≡ None
  none_after true v segment whole p none = none (segment - 1 - 1)
  none_after false true segment whole p none = seek-empty (0 - 1) p
  none_after false false segment whole p none = none (whole - 1)

  list_none : (b : ℕ) (p : List ℕ) → b < 256 → list_any is_slash (b ∷ p) ≡ false
      → seek 0 ((param_token ∷ 47 ∷ catch_all_token ∷ [], k) ∷ []) (b ∷ p) ≡ None
  list_none b p h e =
      let here = (or_parts (is_slash b) (list_any is_slash p) e).1 in
      param_byte (47 ∷ catch_all_token ∷ []) b p h
      ∙ rw (slash_step (b ∷ p))
      (none_after (cuts (segment (b ∷ p)) (47 ∷ [])) (has_slash (b ∷ p)) (length (segment (b ∷ p))) (length (b ∷ p)) p
      (λ n. seek-drop n slash_row p ∙ slash_row-none (drop n p) (any-drop n p here)))

  list_empty : (v : List ℕ) → seek 0 ((param_token ∷ 47 ∷ catch_all_token ∷ [], k) ∷ []) (47 ∷ v) ≡ None
  unfolding param_step
  list_empty v = param_byte (47 ∷ catch_all_token ∷ []) 47 v (omega arith) ∙ seek-empty (0 - 1) v

  -- the suffix of a segment that ends with a slash
  slash_cuts : (b : ℕ) (q : List ℕ) → cuts ((b ∷ q) ++ 47 ∷ []) (47 ∷ []) ≡ true
  slash_cuts b q =
      let long = length-append (b ∷ q) (47 ∷ []) in
      let before : length ((b ∷ q) ++ 47 ∷ []) - 1 ≡ length (b ∷ q) = omega (arith, long) in
      let end : drop (length ((b ∷ q) ++ 47 ∷ []) - 1) ((b ∷ q) ++ 47 ∷ []) ≡ 47 ∷ [] =
      ap (λ (n : ℕ). drop n ((b ∷ q) ++ 47 ∷ [])) before ∙ drop-append_seam (b ∷ q) (47 ∷ []) in
      and_from (ltb 1 (length ((b ∷ q) ++ 47 ∷ []))) (ends_with nat_eq ((b ∷ q) ++ 47 ∷ []) (47 ∷ []))
      (lt-ltb 1 (length ((b ∷ q) ++ 47 ∷ [])) (omega (arith, long)))
      (ap (λ (l : List ℕ). pointwise nat_eq (47 ∷ []) l) end)

  list_walk : (b : ℕ) (q v : List ℕ) → b < 256 → list_any is_slash (b ∷ q) ≡ false
      → seek 0 ((param_token ∷ 47 ∷ catch_all_token ∷ [], k) ∷ []) ((b ∷ q) ++ 47 ∷ v) ≡ seek 0 ((catch_all_token ∷ [], k) ∷ []) v
  list_walk b q v h e =
      let cut : cuts (segment (b ∷ (q ++ 47 ∷ v))) (47 ∷ []) ≡ true =
      ap (λ (l : List ℕ). cuts l (47 ∷ [])) (segment-cut (b ∷ q) v e) ∙ slash_cuts b q in
      let long = ap length (segment-cut (b ∷ q) v e) ∙ length-append (b ∷ q) (47 ∷ []) in
      let skip : length (segment (b ∷ (q ++ 47 ∷ v))) - 1 - 1 ≡ length q = omega (arith, long) in
      let there : drop (length (segment (b ∷ (q ++ 47 ∷ v))) - 1 - 1) (q ++ 47 ∷ v) ≡ 47 ∷ v =
      ap (λ (n : ℕ). drop n (q ++ 47 ∷ v)) skip ∙ drop-append_seam q (47 ∷ v) in
      param_byte (47 ∷ catch_all_token ∷ []) b (q ++ 47 ∷ v) h
      ∙ rw (slash_step (b ∷ (q ++ 47 ∷ v)), cut) (seek-drop (length (segment (b ∷ (q ++ 47 ∷ v))) - 1 - 1) slash_row (q ++ 47 ∷ v)
      ∙ rw there (seek-literal slash_row 47 v refl))

  -- the path's parts are these two
  abbrev pub HasParts : List ℕ → K → Type 0
  HasParts path found =
      (name : List ℕ) × (version : List ℕ) × (path ≡ name ++ 47 ∷ version)
      × ((is_part name && has_bytes version) ≡ true) × (k ≡ found)

  pub list_found : (name version : List ℕ) → IsText (name ++ 47 ∷ version) → (is_part name && has_bytes version) ≡ true
      → seek 0 ((param_token ∷ 47 ∷ catch_all_token ∷ [], k) ∷ []) (name ++ 47 ∷ version) ≡ Some k
  list_found [] version text good = cc
  list_found (b ∷ q) [] text good =
      let both = and_parts (is_part (b ∷ q)) false good in cc
  list_found (b ∷ q) (c ∷ v) text good =
      let both = and_parts (is_part (b ∷ q)) true good in
      list_walk b q (c ∷ v) text.0 (not-true (list_any is_slash (b ∷ q)) both.0)
      ∙ rest_walk c v (text_after (b ∷ q) (47 ∷ c ∷ v) text).1.0

  by_cut : (found : K) (part rest : List ℕ) → IsText (part ++ 47 ∷ rest) → list_any is_slash part ≡ false
      → seek 0 ((param_token ∷ 47 ∷ catch_all_token ∷ [], k) ∷ []) (part ++ 47 ∷ rest) ≡ Some found
      → HasParts (part ++ 47 ∷ rest) found
  unfolding seek
  by_cut found [] rest text none h = let gone = sym (list_empty rest) ∙ h in cc
  by_cut found (b ∷ q) [] text none h = let gone = sym (list_walk b q [] text.0 none) ∙ h in cc
  by_cut found (b ∷ q) (c ∷ v) text none h =
      let some = sym (rest_walk c v (text_after (b ∷ q) (47 ∷ c ∷ v) text).1.0) ∙ sym (list_walk b q (c ∷ v) text.0 none) ∙ h in
      (b ∷ q, c ∷ v, refl, and_from (is_part (b ∷ q)) true (ap not none) refl, cc)

  by_first : (found : K) (path : List ℕ) → IsText path
      → seek 0 ((param_token ∷ 47 ∷ catch_all_token ∷ [], k) ∷ []) path ≡ Some found
      → (list_any is_slash path ≡ false) ⊎ ((part : List ℕ) × (rest : List ℕ) × IsCutAt path part rest)
      → HasParts path found
  unfolding seek
  by_first found [] text h (inl none) = cc
  by_first found (b ∷ p) text h (inl none) = let gone = sym (list_none b p text.0 none) ∙ h in cc
  by_first found path text h (inr (part, rest, cut)) =
      subst (λ (l : List ℕ). HasParts l found) (sym cut.0)
      (by_cut found part rest (subst IsText cut.0 text) cut.1
      (subst (λ (l : List ℕ). seek 0 ((param_token ∷ 47 ∷ catch_all_token ∷ [], k) ∷ []) l ≡ Some found) cut.0 h))

  pub list_only : (found : K) (path : List ℕ) → IsText path
      → seek 0 ((param_token ∷ 47 ∷ catch_all_token ∷ [], k) ∷ []) path ≡ Some found → HasParts path found
  list_only found path text h = by_first found path text h (at_first path)
