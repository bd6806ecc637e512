-- Words of printed ASCII characters: they hold no blank and no control character.
use Rattle.std.proofs.Common.{◌≡◌, ℕ, ◌^◌, ◌≤◌, ◌<◌, ◌&&◌, ◌||◌, ◌==◌, nat_le, Bool, true, false, not, List, [], ◌∷◌, ◌++◌}
use Rattle.std.proofs.Common.{length, Option, Some, None, refl, sym, ap, ◌∙◌, inl, inr, arith}
use Rattle.std.specs.List.{list_any, list_all}
use Rattle.std.specs.Char.{is_ascii_digit, is_ascii_control}
use Rattle.std.specs.Int.{is_in_range}
use Rattle.std.specs.Fmt.{decimal}
use Rattle.std.specs.Str.Parse.{digits_value}
use Rattle.std.proofs.lemmas.Bool.{false≢true, or_cases, and_parts, and_from, and_left, and_right, or_from, false_from_ne_true, leb-true}
use Rattle.std.proofs.lemmas.Bool.{le-leb, eqb-true, ne_eqb}
use Rattle.std.proofs.lemmas.List.Folds.{list_all-append}
use Rattle.std.proofs.lemmas.Fmt.{decimal_is_IsNumeral, length-decimal-le}
use Rattle.debver.specs.Characters.{is_digit, is_letter, is_colon, is_hyphen}
use Rattle.debver.specs.Names.{IsName, in_name, starts_name}
use Rattle.debver.specs.Parts.{in_upstream, in_revision, epoch_text, revision_text, IsEpoch, IsRevision}
use Rattle.debver.specs.Cut.{cut, IsVersion}
use Rattle.base_words.specs.Blanks.{is_blank, is_control}
use Rattle.base_words.specs.Words.{has_bytes, is_blank_or_comma}
use Rattle.base_words.proofs.NumberLemmas.{own}

abbrev pub is_graphic : ℕ → Bool
is_graphic c = nat_le 33 c && nat_le c 126

abbrev pub IsGraphic : List ℕ → Type 0
IsGraphic s = list_all is_graphic s ≡ true

graphic : (c : ℕ) → 33 ≤ c → c ≤ 126 → is_graphic c ≡ true
graphic c low high = and_from (nat_le 33 c) (nat_le c 126) (le-leb 33 c low) (le-leb c 126 high)

graphic_is : (c : ℕ) → is_graphic c ≡ true → (33 ≤ c) × (c ≤ 126)
graphic_is c h = let p = and_parts (nat_le 33 c) (nat_le c 126) h in (leb-true 33 c p.0, leb-true c 126 p.1)

no_blank : (c : ℕ) → 33 ≤ c → is_blank c ≡ false
no_blank c low = or_from (c == 32) (c == 9) (ne_eqb c 32 (λ e. omega arith)) (ne_eqb c 9 (λ e. omega arith))

no_control : (c : ℕ) → 33 ≤ c → c ≤ 126 → is_control c ≡ false
no_control c low high =
    let above : nat_le c 31 ≡ false = false_from_ne_true (nat_le c 31) (λ e. omega (arith, leb-true c 31 e)) in
    let below : nat_le 127 c ≡ false = false_from_ne_true (nat_le 127 c) (λ e. omega (arith, leb-true 127 c e)) in
    and_left (is_ascii_control c) (not (c == 9))
    (or_from (is_in_range 0 31 c) (is_in_range 127 127 c) (and_right (nat_le 0 c) (nat_le c 31) above)
    (and_left (nat_le 127 c) (nat_le c 127) below))

pub graphic-blank : (s : List ℕ) → IsGraphic s → list_any is_blank s ≡ false
graphic-blank [] h = refl
graphic-blank (c ∷ s) h =
    let p = and_parts (is_graphic c) (list_all is_graphic s) h in
    or_from (is_blank c) (list_any is_blank s) (no_blank c (graphic_is c p.0).0) (graphic-blank s p.1)

pub graphic-control : (s : List ℕ) → IsGraphic s → list_any is_control s ≡ false
graphic-control [] h = refl
graphic-control (c ∷ s) h =
    let p = and_parts (is_graphic c) (list_all is_graphic s) h in
    let q = graphic_is c p.0 in
    or_from (is_control c) (list_any is_control s) (no_control c q.0 q.1) (graphic-control s p.1)

pub graphic-append : (s t : List ℕ) → IsGraphic s → IsGraphic t → IsGraphic (s ++ t)
graphic-append s t h k = list_all-append is_graphic s t ∙ and_from (list_all is_graphic s) (list_all is_graphic t) h k

-- characters of a class of printed ones
graphic-all : (p : ℕ → Bool) → ((c : ℕ) → p c ≡ true → is_graphic c ≡ true) → (s : List ℕ) → list_all p s ≡ true → IsGraphic s
graphic-all p each [] h = refl
graphic-all p each (c ∷ s) h =
    let q = and_parts (p c) (list_all p s) h in
    and_from (is_graphic c) (list_all is_graphic s) (each c q.0) (graphic-all p each s q.1)

within : (low high c : ℕ) → 33 ≤ low → high ≤ 126 → (nat_le low c && nat_le c high) ≡ true → is_graphic c ≡ true
within low high c least most h =
    let p = and_parts (nat_le low c) (nat_le c high) h in
    let a = leb-true low c p.0 in
    let b = leb-true c high p.1 in
    graphic c (omega arith) (omega arith)

just : (k c : ℕ) → 33 ≤ k → k ≤ 126 → (c == k) ≡ true → is_graphic c ≡ true
just k c least most h = let is : c ≡ k = eqb-true c k h in graphic c (omega arith) (omega arith)

either : {P : Type 0} (x y : Bool) → (x ≡ true → P) → (y ≡ true → P) → (x || y) ≡ true → P
either x y f g h = elim (or_cases x y h) [ inl e ↦ f e | inr e ↦ g e ]

digit : (c : ℕ) → is_digit c ≡ true → is_graphic c ≡ true
digit c = within 48 57 c (omega arith) (omega arith)

letter : (c : ℕ) → is_letter c ≡ true → is_graphic c ≡ true
letter c = either (nat_le 65 c && nat_le c 90) (nat_le 97 c && nat_le c 122) (within 65 90 c (omega arith) (omega arith))
    (within 97 122 c (omega arith) (omega arith))

name_start : (c : ℕ) → starts_name c ≡ true → is_graphic c ≡ true
name_start c = either (nat_le 97 c && nat_le c 122) (is_digit c) (within 97 122 c (omega arith) (omega arith)) (digit c)

name_byte : (c : ℕ) → in_name c ≡ true → is_graphic c ≡ true
name_byte c =
    either (starts_name c || c == 43 || c == 45) (c == 46)
    (either (starts_name c || c == 43) (c == 45)
    (either (starts_name c) (c == 43) (name_start c) (just 43 c (omega arith) (omega arith)))
    (just 45 c (omega arith) (omega arith)))
    (just 46 c (omega arith) (omega arith))

revision_byte : (c : ℕ) → in_revision c ≡ true → is_graphic c ≡ true
revision_byte c =
    either (is_digit c || is_letter c || c == 46 || c == 43) (c == 126)
    (either (is_digit c || is_letter c || c == 46) (c == 43)
    (either (is_digit c || is_letter c) (c == 46) (either (is_digit c) (is_letter c) (digit c) (letter c))
    (just 46 c (omega arith) (omega arith))) (just 43 c (omega arith) (omega arith)))
    (just 126 c (omega arith) (omega arith))

upstream_byte : (colon : Bool) (c : ℕ) → in_upstream colon c ≡ true → is_graphic c ≡ true
upstream_byte colon c =
    either (in_revision c || is_hyphen c) (colon && is_colon c)
    (either (in_revision c) (is_hyphen c) (revision_byte c) (just 45 c (omega arith) (omega arith)))
    (λ h. just 58 c (omega arith) (omega arith) (and_parts colon (is_colon c) h).1)

epoch-graphic : (e : Option (List ℕ)) → IsEpoch e → IsGraphic (epoch_text e)
epoch-graphic None h = refl
epoch-graphic (Some e) h = graphic-append e (58 ∷ []) (graphic-all is_digit digit e h.1) refl

revision-graphic : (r : Option (List ℕ)) → IsRevision r → IsGraphic (revision_text r)
revision-graphic None h = refl
revision-graphic (Some r) h = graphic-all in_revision revision_byte r h.1

-- a word that is not empty, of printed characters
pub record IsPlainWord (word : List ℕ) : Type 0 where
  pub some : has_bytes word ≡ true
  pub graphic : IsGraphic word

pub some_bytes : (s : List ℕ) → 0 < length s → has_bytes s ≡ true
some_bytes [] h = absurd (omega arith)
some_bytes (c ∷ s) h = refl

pub name-plain : (s : List ℕ) → IsName s → IsPlainWord s
name-plain s h = let long = h.long in
    record { some = some_bytes s (omega arith); graphic = graphic-all in_name name_byte s h.bytes }

some-append : (s t : List ℕ) → 0 < length t → has_bytes (s ++ t) ≡ true
some-append [] t h = some_bytes t h
some-append (c ∷ s) t h = refl

some-first : (s t : List ℕ) → 0 < length s → has_bytes (s ++ t) ≡ true
some-first [] t h = absurd (omega arith)
some-first (c ∷ s) t h = refl

has_bytes-second : (s t : List ℕ) → has_bytes t ≡ true → has_bytes (s ++ t) ≡ true
has_bytes-second [] t h = h
has_bytes-second (c ∷ s) t h = refl

pub version-plain : (s : List ℕ) → IsVersion s → IsPlainWord s
version-plain s h =
    let v = cut s in
    let rest = v.upstream ++ revision_text v.revision in
    let some : has_bytes (epoch_text v.epoch ++ rest) ≡ true =
    has_bytes-second (epoch_text v.epoch) rest (some-first v.upstream (revision_text v.revision) h.upstream.0) in
    let all : IsGraphic (epoch_text v.epoch ++ rest)
    = graphic-append (epoch_text v.epoch) rest (epoch-graphic v.epoch h.epoch)
    (graphic-append v.upstream (revision_text v.revision) (graphic-all (in_upstream _) (upstream_byte _) v.upstream h.upstream.1)
    (revision-graphic v.revision h.revision)) in
    record { some = ap has_bytes h.cut.whole ∙ some; graphic = ap (list_all is_graphic) h.cut.whole ∙ all }

-- what is known of a number that is written
pub record IsWritten (n : ℕ) : Type 0 where
  pub some : 0 < length (decimal n)
  pub digits : list_all is_ascii_digit (decimal n) ≡ true
  pub value : digits_value 10 (decimal n) ≡ n
  pub short : length (decimal n) ≤ 9

pub written_is : (n : ℕ) → n ≤ 999999999 → IsWritten n
written_is n most =
    let small : n < 2 ^ 64 = omega arith in
    let numeral = decimal_is_IsNumeral n small in
    record {
      some = numeral.0.0;
      digits = own.from (decimal n) numeral.0.1;
      value = numeral.1;
      short =
          length-decimal-le 9 n (omega arith) (omega arith) small;
    }

pub decimal-plain : (n : ℕ) → n ≤ 999999999 → IsPlainWord (decimal n)
decimal-plain n most = let w = written_is n most in
    record { some = some_bytes (decimal n) w.some; graphic = graphic-all is_ascii_digit digit (decimal n) w.digits }

-- digits are no blanks and no commas
digit_whole : (c : ℕ) → is_ascii_digit c ≡ true → is_blank_or_comma c ≡ false
digit_whole c h =
    let p = and_parts (nat_le 48 c) (nat_le c 57) h in
    let low = leb-true 48 c p.0 in
    or_from (is_blank c) (c == 44) (no_blank c (omega arith)) (ne_eqb c 44 (λ e. omega arith))

in_name-whole : (c : ℕ) → in_name c ≡ true → is_blank_or_comma c ≡ false
in_name-whole c h =
    let low = leb-true 33 c (and_parts (nat_le 33 c) (nat_le c 126) (name_byte c h)).0 in
    or_from (is_blank c) (c == 44) (no_blank c (omega arith)) (ne_eqb c 44 (λ e. false≢true (ap in_name (sym e) ∙ h)))

names-whole : (s : List ℕ) → list_all in_name s ≡ true → list_any is_blank_or_comma s ≡ false
names-whole [] h = refl
names-whole (c ∷ s) h =
    let p = and_parts (in_name c) (list_all in_name s) h in
    or_from (is_blank_or_comma c) (list_any is_blank_or_comma s) (in_name-whole c p.0) (names-whole s p.1)

pub name-whole : (s : List ℕ) → IsName s → list_any is_blank_or_comma s ≡ false
name-whole s h = names-whole s h.bytes

digits-whole : (s : List ℕ) → list_all is_ascii_digit s ≡ true → list_any is_blank_or_comma s ≡ false
digits-whole [] h = refl
digits-whole (c ∷ s) h =
    let p = and_parts (is_ascii_digit c) (list_all is_ascii_digit s) h in
    or_from (is_blank_or_comma c) (list_any is_blank_or_comma s) (digit_whole c p.0) (digits-whole s p.1)

pub decimal-whole : (n : ℕ) → n ≤ 999999999 → list_any is_blank_or_comma (decimal n) ≡ false
decimal-whole n most = let w = written_is n most in digits-whole (decimal n) w.digits
