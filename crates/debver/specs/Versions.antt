-- The order of versions, by Debian Policy 5.6.12.

use Rattle.std.specs.Prelude.{ℕ, List, [], ◌∷◌, unwrap_or}
use Rattle.std.specs.Ordering.{nat_cmp, ordering_then}
use Rattle.std.specs.Cmp.Lexicographic.{slice_cmp}
use Rattle.std.specs.declared.cmp.Ordering.{Ordering}
use Rattle.debver.specs.Parts.{Version}
use Rattle.debver.specs.Cut.{cut}
use Rattle.debver.specs.Keys.{value, string_cmp}

-- an absent epoch is zero
abbrev pub epoch_value : Version → ℕ
epoch_value v = value (unwrap_or v.epoch [])

-- an absent revision is `0`
abbrev pub revision_or_zero : Version → List ℕ
revision_or_zero v = unwrap_or v.revision (48 ∷ [])

-- by the epochs as numbers, then the upstream parts, then the revisions
abbrev pub version_cmp : Version → Version → Ordering
version_cmp v w =
    ordering_then (nat_cmp (epoch_value v) (epoch_value w))
    (ordering_then (string_cmp v.upstream w.upstream) (string_cmp (revision_or_zero v) (revision_or_zero w)))

-- the order of two texts by their parts
abbrev pub text_cmp : List ℕ → List ℕ → Ordering
text_cmp s t = version_cmp (cut s) (cut t)

-- this project's own rule: texts that compare alike go by their bytes
abbrev pub total_cmp : List ℕ → List ℕ → Ordering
total_cmp s t = ordering_then (text_cmp s t) (slice_cmp nat_cmp s t)
