-- Tests of a list, and digits.
use Rattle.std.proofs.Common.{◌≡◌, ℕ, ◌+◌, ◌-◌, ◌*◌, ◌^◌, ◌<◌, Bool, true, false, List, [], ◌∷◌, length, get_or, take, map, refl, sym, ap, ◌∙◌, arith, add-one, Err}
use Rattle.std.proofs.Math.Nat.{pow-suc}
use Rattle.std.specs.Prelude.{◌||◌, codes, if◌then◌else◌}
use Rattle.std.specs.List.{list_any}
use Rattle.std.specs.Char.{is_ascii_digit, digit_value}
use Rattle.std.specs.Str.Parse.{digits_value}
use Rattle.httparse.specs.Spans.{header_bytes}
use Rattle.httparse.specs.declared.spans.HeaderSpan.{HeaderSpan}
use Rattle.http_bytes.specs.Headers.{is_named, has_header, values_of, length_of_values, body_length}
use Rattle.http_bytes.specs.declared.refusal.BodyRefusal.TheVariants.{NotImplemented, BadRequest}
use Rattle.std.proofs.lemmas.Bool.Decides.{nat_tests}
use Rattle.std.proofs.lemmas.Int.Digits.{digits_value_more}

pub list_any-map : {X Y : Type 0} (p : Y → Bool) (f : X → Y) (xs : List X) → list_any p (map f xs) ≡ list_any (λ x. p (f x)) xs
list_any-map p f [] = refl
list_any-map p f (x ∷ xs) = ap (λ b. p (f x) || b) (list_any-map p f xs)

-- one more digit
pub number-more : (text : List ℕ) (i n d : ℕ) → i < length text → is_ascii_digit (get_or text i 0) ≡ true
    → d ≡ get_or text i 0 - 48 → n ≡ digits_value 10 (take i text) → n * 10 + d ≡ digits_value 10 (take (i + 1) text)
number-more text i n d inside digit is same =
    let worth : digit_value (get_or text i 0) ≡ get_or text i 0 - 48 = grind (arith, nat_tests) in
    rw (digits_value_more 10 text i inside, worth, is, same)

pub below-ten : (n d i c : ℕ) → is_ascii_digit c ≡ true → d ≡ c - 48 → n < 10 ^ i → n * 10 + d < 10 ^ (i + 1)
below-ten n d i c digit is small =
    let few : d < 10 = grind (arith, nat_tests) in
    rw (add-one, pow-suc) (omega arith)

-- ---- the length of a body

-- whether some header that the spans cover has this name
covered_header : (name buf : List ℕ) (headers : List HeaderSpan) (b : Bool)
    → b ≡ list_any (λ header. is_named name (header_bytes buf header)) headers
    → has_header name (map (header_bytes buf) headers) ≡ b
covered_header name buf headers b e = list_any-map (is_named name) (header_bytes buf) headers ∙ sym e

-- a transfer coding is refused
pub length-encoded : (buf : List ℕ) (headers : List HeaderSpan) (b : Bool)
    → b ≡ list_any (λ header. is_named (codes "transfer-encoding") (header_bytes buf header)) headers → b ≡ true
    → Err NotImplemented ≡ body_length (map (header_bytes buf) headers)
unfolding body_length
length-encoded buf headers b e h = sym (
    ap (λ (b : Bool). if b then Err NotImplemented
    else length_of_values (values_of (codes "content-length") (map (header_bytes buf) headers)))
    (covered_header (codes "transfer-encoding") buf headers b e ∙ h)
    )

-- and without one the values of `Content-Length` say the length
pub length-plain : (buf : List ℕ) (headers : List HeaderSpan) (found : List (List ℕ)) (b : Bool)
    → b ≡ list_any (λ header. is_named (codes "transfer-encoding") (header_bytes buf header)) headers → b ≡ false
    → values_of (codes "content-length") (map (header_bytes buf) headers) ≡ found
    → length_of_values found ≡ body_length (map (header_bytes buf) headers)
unfolding body_length
length-plain buf headers found b e h f = sym (
    ap (λ (b : Bool). if b then Err NotImplemented
    else length_of_values (values_of (codes "content-length") (map (header_bytes buf) headers)))
    (covered_header (codes "transfer-encoding") buf headers b e ∙ h)
    ∙ ap length_of_values f
    )

-- several values
pub length-several : (found : List (List ℕ)) → 1 < length found → length_of_values found ≡ Err BadRequest
length-several [] h = absurd (omega (arith, h))
length-several (x ∷ []) h = absurd (omega (arith, h))
length-several (x ∷ y ∷ more) h = refl
