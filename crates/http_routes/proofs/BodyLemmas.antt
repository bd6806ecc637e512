-- What a body is, by whether it is UTF-8.
use Rattle.std.proofs.Common.{◌≡◌, ℕ, List, Bool, true, false, Some, None, refl, sym, ap, ◌∙◌}
use Rattle.std.specs.Prelude.{if◌then◌else◌}
use Rattle.std.specs.Str.{IsUtf8, is_utf8}
use Rattle.std.proofs.lemmas.Str.{IsUtf8-from_is_utf8, is_utf8-from_IsUtf8}
use Rattle.serde_json.specs.Data.{Data}
use Rattle.serde_json.specs.Read.{read}
use Rattle.http_routes.specs.Body.{json_of}

pub json_of-utf8 : (body : List ℕ) (d : Data) → IsUtf8 body → read body ≡ Some d → Some d ≡ json_of body
unfolding json_of
json_of-utf8 body d h e = sym (ap (λ (b : Bool). if b then read body else None) (is_utf8-from_IsUtf8 body h) ∙ e)

-- a body that reads as nothing, if it is UTF-8 at all
pub json_of-refused : (body : List ℕ) → (IsUtf8 body → read body ≡ None) → None ≡ json_of body
unfolding json_of
json_of-refused body h = by_test (is_utf8 body) refl
  where
    by_test : (b : Bool) → is_utf8 body ≡ b → None ≡ (if b then read body else None)
    by_test true e = sym (h (IsUtf8-from_is_utf8 body e))
    by_test false e = refl
