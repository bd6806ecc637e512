-- The text of a part, by whether its decoded bytes are UTF-8.
use Rattle.std.proofs.Common.{◌≡◌, ℕ, List, Bool, true, false, Some, None, refl, sym, ap}
use Rattle.std.specs.Prelude.{if◌then◌else◌}
use Rattle.std.specs.Str.{IsUtf8, is_utf8}
use Rattle.std.proofs.lemmas.Str.{IsUtf8-from_is_utf8, is_utf8-from_IsUtf8}
use Rattle.percent_encoding.specs.Percent.{percent_decode}
use Rattle.http_routes.specs.Parts.{decoded_text}

-- by the test of the decoded bytes
by_test : (bytes : List ℕ) (b : Bool) → is_utf8 bytes ≡ b → (if is_utf8 bytes then Some bytes else None) ≡ (if b then Some bytes else None)
by_test bytes b e = ap (λ (t : Bool). if t then Some bytes else None) e

pub decoded_text-utf8 : (part bytes : List ℕ) → bytes ≡ percent_decode part → IsUtf8 bytes → Some bytes ≡ decoded_text part
unfolding decoded_text
decoded_text-utf8 part bytes e h = rw (← e) (sym (by_test bytes true (is_utf8-from_IsUtf8 bytes h)))

is_false : (bytes : List ℕ) (b : Bool) → is_utf8 bytes ≡ b → ¬ (IsUtf8 bytes) → b ≡ false
is_false bytes true e h = absurd (h (IsUtf8-from_is_utf8 bytes e))
is_false bytes false e h = refl

pub decoded_text-bytes : (part bytes : List ℕ) → bytes ≡ percent_decode part → ¬ (IsUtf8 bytes) → None ≡ decoded_text part
unfolding decoded_text
decoded_text-bytes part bytes e h =
    rw (← e) (sym (by_test bytes false (is_false bytes (is_utf8 bytes) refl h)))
