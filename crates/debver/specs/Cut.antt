-- The one way to cut a text into parts, and which texts are versions.

use Rattle.std.specs.Prelude.{ℕ, if◌then◌else◌, List, Option}
use Rattle.std.specs.Bool.{then_some}
use Rattle.std.specs.List.{list_any, before_first, after_first, before_last, after_last}
use Rattle.debver.specs.Characters.{is_colon, is_hyphen}
use Rattle.debver.specs.Parts.{Version, parts_of, HasParts}

-- what precedes the first colon, if there is one
abbrev pub epoch_of : List ℕ → Option (List ℕ)
epoch_of text = then_some (list_any is_colon text) (before_first is_colon text)

-- what follows the first colon, or the whole text
abbrev pub rest_of : List ℕ → List ℕ
rest_of text = if list_any is_colon text then after_first is_colon text else text

-- what precedes the last hyphen of the rest, or the whole rest
abbrev pub upstream_of : List ℕ → List ℕ
upstream_of rest = if list_any is_hyphen rest then before_last is_hyphen rest else rest

-- what follows the last hyphen of the rest, if there is one
abbrev pub revision_of : List ℕ → Option (List ℕ)
revision_of rest = then_some (list_any is_hyphen rest) (after_last is_hyphen rest)

abbrev pub cut : List ℕ → Version
cut text = parts_of (epoch_of text) (upstream_of (rest_of text)) (revision_of (rest_of text))

-- a version text, by Debian Policy 5.6.12
abbrev pub IsVersion : List ℕ → Type 0
IsVersion text = HasParts text (cut text)
