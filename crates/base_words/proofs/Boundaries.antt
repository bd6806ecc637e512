-- A text may be cut round ASCII bytes, as blanks and commas are.
use Rattle.std.proofs.Common.{◌≡◌, ◌==◌, ℕ, ◌+◌, ◌-◌, ◌<◌, List, length, get_or, reverse, true, not, inl, inr, sym, ap, ◌∙◌}
use Rattle.std.proofs.Common.{subst, arith}
use Rattle.std.specs.Prelude.{IsUtf8, IsCharBoundary}
use Rattle.std.specs.List.{prefix_len, suffix_len, position_or_len}
use Rattle.std.proofs.lemmas.Bool.{or_cases, eqb-true, cases_lt}
use Rattle.std.proofs.lemmas.List.Sums.{prefix_len-le-length, suffix_len-le-length, prefix_len_passes, passes_at_first}
use Rattle.std.proofs.lemmas.List.{get_or-reverse}
use Rattle.std.proofs.lemmas.Str.{IsCharBoundary-start, IsCharBoundary-after_ascii}
use Rattle.base_words.specs.Blanks.{is_blank}
use Rattle.base_words.specs.Words.{is_separator}
use Rattle.base_words.specs.declared.words.Separators.{Separators}
use Rattle.base_words.specs.declared.words.Separators.TheVariants.{Blanks, BlanksAndCommas}

blank-ascii : (c : ℕ) → is_blank c ≡ true → c < 128
blank-ascii c h =
    elim (or_cases (c == 32) (c == 9) h) [
      | inl e ↦ let is : c ≡ 32 = eqb-true c 32 e in omega arith
      | inr e ↦ let is : c ≡ 9 = eqb-true c 9 e in omega arith
    ]

separator-ascii : (separators : Separators) (c : ℕ) → is_separator separators c ≡ true → c < 128
separator-ascii Blanks c h = blank-ascii c h
separator-ascii BlanksAndCommas c h =
    elim (or_cases (is_blank c) (c == 44) h) [
      | inl e ↦ blank-ascii c e
      | inr e ↦ let is : c ≡ 44 = eqb-true c 44 e in omega arith
    ]

-- a text may be cut at its first separator, and after the separators at its beginning
pub boundary_at_separator : (separators : Separators) (s : List ℕ)
    → IsCharBoundary s (position_or_len (is_separator separators) s)
boundary_at_separator separators s =
    let p = is_separator separators in
    let n = position_or_len p s in (
      prefix_len-le-length (λ x. not (p x)) s,
      λ within far.
          let near : get_or s n 0 < 128 = separator-ascii separators (get_or s n 0) (passes_at_first p s 0 within) in
          absurd (omega arith),
    )

pub boundary_after_separators : (separators : Separators) (s : List ℕ) → IsUtf8 s
    → IsCharBoundary s (prefix_len (is_separator separators) s)
boundary_after_separators separators s u =
    let p = is_separator separators in
    let n = prefix_len p s in
    let le = prefix_len-le-length p s in
    let P : ℕ → Type 0 = IsCharBoundary s in
    elim (cases_lt 0 n) [
      | inl more ↦
          let last : n - 1 < n = omega arith in
          let next : n - 1 + 1 ≡ n = omega arith in
          let near = separator-ascii separators (get_or s (n - 1) 0) (prefix_len_passes p s (n - 1) 0 last) in
          subst P next (IsCharBoundary-after_ascii s (n - 1) u (omega arith) near)
      | inr none ↦
          let start : 0 ≡ n = omega arith in
          subst P start (IsCharBoundary-start s u)
    ]

pub boundary_before_blanks : (s : List ℕ) → IsCharBoundary s (length s - suffix_len is_blank s)
boundary_before_blanks s =
    let k = suffix_len is_blank s in
    let n = length s - k in
    let le = suffix_len-le-length is_blank s in (
      omega arith,
      λ within far.
          let back : length s - 1 - (k - 1) ≡ n = omega arith in
          let passes : is_blank (get_or s n 0) ≡ true =
          sym (ap is_blank (get_or-reverse s (k - 1) 0 (omega arith) ∙ ap (λ i. get_or s i 0) back))
          ∙ prefix_len_passes is_blank (reverse s) (k - 1) 0 (omega arith) in
          let near : get_or s n 0 < 128 = blank-ascii (get_or s n 0) passes in
          absurd (omega arith),
    )
