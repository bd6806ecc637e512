-- Texts without outer blanks.
use Rattle.std.proofs.Common.{◌≡◌, ℕ, ◌-◌, ◌≤◌, ◌&&◌, ◌||◌, nat_le, Bool, true, false, not, List, [], ◌∷◌, ◌++◌, length, take}
use Rattle.std.proofs.Common.{drop, reverse, refl, ap, sym, ◌∙◌, arith}
use Rattle.std.specs.List.{list_any, list_all, prefix_len, suffix_len}
use Rattle.std.proofs.lemmas.Bool.{or_parts, and_parts, and_from, not_from_false, le-leb, leb-true, cond-false, false≢true}
use Rattle.std.proofs.lemmas.List.{take-append-drop, reverse-append, length-reverse, length-drop, take_all}
use Rattle.std.proofs.lemmas.List.Folds.{list_any-append}
use Rattle.std.proofs.lemmas.List.Sums.{suffix_len-le-length}
use Rattle.std.proofs.Math.Seq.{drop-append_seam}
use Rattle.base_words.specs.Blanks.{is_blank, is_control, begins_blank}
use Rattle.base_words.specs.Texts.{ends_blank, is_text, IsText}
use Rattle.base_words.specs.Words.{without_first, without_last_blanks, trimmed}
use Rattle.base_words.proofs.WordLemmas.{begins_blank-without_first}

-- what no byte of a text is, no byte of a part of it is
pub none-take : (p : ℕ → Bool) (n : ℕ) (s : List ℕ) → list_any p s ≡ false → list_any p (take n s) ≡ false
none-take p n s h = (or_parts (list_any p (take n s)) (list_any p (drop n s))
    (sym (list_any-append p (take n s) (drop n s)) ∙ ap (list_any p) (take-append-drop n s) ∙ h)).0

pub none-drop : (p : ℕ → Bool) (n : ℕ) (s : List ℕ) → list_any p s ≡ false → list_any p (drop n s) ≡ false
none-drop p n s h = (or_parts (list_any p (take n s)) (list_any p (drop n s))
    (sym (list_any-append p (take n s) (drop n s)) ∙ ap (list_any p) (take-append-drop n s) ∙ h)).1

pub none-all : (p : ℕ → Bool) (s : List ℕ) → list_any p s ≡ false → list_all (λ c. not (p c)) s ≡ true
none-all p [] h = refl
none-all p (c ∷ s) h =
    let q = or_parts (p c) (list_any p s) h in
    and_from (not (p c)) (list_all (λ d. not (p d)) s) (not_from_false (p c) q.0) (none-all p s q.1)

not-true : (b : Bool) → not b ≡ true → b ≡ false
not-true true h = absurd (false≢true h)
not-true false h = refl

pub all-none : (p : ℕ → Bool) (s : List ℕ) → list_all (λ c. not (p c)) s ≡ true → list_any p s ≡ false
all-none p [] h = refl
all-none p (c ∷ s) h =
    let q = and_parts (not (p c)) (list_all (λ d. not (p d)) s) h in
    ap (λ b. b || list_any p s) (not-true (p c) q.0) ∙ all-none p s q.1

begins_blank-append : (s t : List ℕ) → begins_blank (s ++ t) ≡ false → begins_blank s ≡ false
begins_blank-append [] t h = refl
begins_blank-append (c ∷ s) t h = h

-- a text without its last blanks ends with none
ends_blank-last : (s : List ℕ) → ends_blank (without_last_blanks s) ≡ false
ends_blank-last s =
    let k = suffix_len is_blank s in
    let n = length s - k in
    let le = suffix_len-le-length is_blank s in
    let long : length (reverse (drop n s)) ≡ k = length-reverse (drop n s) ∙ length-drop n s ∙ omega (arith, le) in
    let whole : reverse s ≡ reverse (drop n s) ++ reverse (take n s) =
    ap reverse (sym (take-append-drop n s)) ∙ reverse-append (take n s) (drop n s) in
    let rest : drop k (reverse s) ≡ reverse (take n s)
    = ap (drop k) whole ∙ ap (λ i. drop i (reverse (drop n s) ++ reverse (take n s))) (sym long)
    ∙ drop-append_seam (reverse (drop n s)) (reverse (take n s)) in
    ap begins_blank (sym rest) ∙ begins_blank-without_first (reverse s)

begins_blank-last : (s : List ℕ) → begins_blank s ≡ false → begins_blank (without_last_blanks s) ≡ false
begins_blank-last s h =
    let n = length s - suffix_len is_blank s in
    begins_blank-append (take n s) (drop n s) (ap begins_blank (take-append-drop n s) ∙ h)

pub control-trimmed : (s : List ℕ) → list_any is_control s ≡ false → list_any is_control (trimmed s) ≡ false
control-trimmed s h =
    let t = without_first is_blank s in
    none-take is_control (length t - suffix_len is_blank t) t (none-drop is_control (prefix_len is_blank s) s h)

text_from : (s : List ℕ) → 1 ≤ length s → length s ≤ 200 → list_any is_control s ≡ false → begins_blank s ≡ false
    → ends_blank s ≡ false → IsText s
unfolding is_text
text_from s least most clean first last =
    let size = and_from (nat_le 1 (length s)) (nat_le (length s) 200) (le-leb 1 (length s) least) (le-leb (length s) 200 most) in
    let plain = and_from (nat_le 1 (length s) && nat_le (length s) 200) (list_all (λ c. not (is_control c)) s) size
    (none-all is_control s clean) in
    let start = and_from (nat_le 1 (length s) && nat_le (length s) 200 && list_all (λ c. not (is_control c)) s)
    (not (begins_blank s)) plain (not_from_false (begins_blank s) first) in
    and_from (nat_le 1 (length s) && nat_le (length s) 200 && list_all (λ c. not (is_control c)) s && not (begins_blank s))
    (not (ends_blank s)) start (not_from_false (ends_blank s) last)

-- a text without outer blanks is a text, where it has 1 to 200 bytes and no control character
pub trimmed-text : (s : List ℕ) → 1 ≤ length (trimmed s) → length (trimmed s) ≤ 200 → list_any is_control s ≡ false
    → IsText (trimmed s)
trimmed-text s least most clean =
    text_from (trimmed s) least most (control-trimmed s clean)
    (begins_blank-last (without_first is_blank s) (begins_blank-without_first s)) (ends_blank-last (without_first is_blank s))

-- what a text is
pub record TextParts (s : List ℕ) : Type 0 where
  pub least : 1 ≤ length s
  pub most : length s ≤ 200
  pub clean : list_any is_control s ≡ false
  pub first : begins_blank s ≡ false
  pub last : ends_blank s ≡ false

pub text_parts : (s : List ℕ) → IsText s → TextParts s
unfolding is_text
text_parts s h =
    let all = list_all (λ c. not (is_control c)) s in
    let size = nat_le 1 (length s) && nat_le (length s) 200 in
    let a = and_parts (size && all && not (begins_blank s)) (not (ends_blank s)) h in
    let b = and_parts (size && all) (not (begins_blank s)) a.0 in
    let c = and_parts size all b.0 in
    let d = and_parts (nat_le 1 (length s)) (nat_le (length s) 200) c.0 in
    record {
      least = leb-true 1 (length s) d.0;
      most = leb-true (length s) 200 d.1;
      clean = all-none is_control s c.1;
      first = not-true (begins_blank s) b.1;
      last = not-true (ends_blank s) a.1;
    }

-- a text that begins with no blank has none to lose there
pub none_first : (s : List ℕ) → begins_blank s ≡ false → prefix_len is_blank s ≡ 0
none_first [] h = refl
none_first (c ∷ s) h = cond-false (is_blank c) _ _ h

pub unblanked_first : (s : List ℕ) → begins_blank s ≡ false → without_first is_blank s ≡ s
unblanked_first s h = ap (λ n. drop n s) (none_first s h)

-- a text is what is left of it without outer blanks
pub text-trimmed : (s : List ℕ) → IsText s → trimmed s ≡ s
text-trimmed s h =
    let p = text_parts s h in
    let none : suffix_len is_blank s ≡ 0 = none_first (reverse s) p.last in
    ap without_last_blanks (unblanked_first s p.first) ∙ take_all (length s - suffix_len is_blank s) s (omega arith)
