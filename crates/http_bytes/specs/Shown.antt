-- The values of a header, as the code has them.
use Rattle.std.specs.Prelude.{◌≡◌, ℕ, ◌<◌, List, [], ◌∷◌, length}
use Rattle.http_bytes.specs.declared.body_size.Values.{Values}
use Rattle.http_bytes.specs.declared.body_size.Values.TheVariants as values

-- there is no such value, or this one, or there are several
abbrev pub AreShown : Values → List (List ℕ) → Type 0
AreShown values.None found = found ≡ []
AreShown (values.One value) found = found ≡ value.now ∷ []
AreShown values.Several found = 1 < length found
