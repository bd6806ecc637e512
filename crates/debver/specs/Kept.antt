-- The bytes that a text keeps.
use Rattle.std.specs.Prelude.{List, ℕ}
use Rattle.std.specs.String.{string_bytes}
use Rattle.debver.specs.declared.text.Kept.{Kept}
use Rattle.debver.specs.declared.text.Kept.TheVariants.{Short, Long}

abbrev pub kept_bytes : Kept → List ℕ
kept_bytes (Short text) = text.bytes
kept_bytes (Long text) = string_bytes text
