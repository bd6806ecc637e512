-- What the functions that read a line answer, step by step.
use Rattle.std.specs.Prelude.{◌≡◌, ℕ, ◌+◌, ◌<◌, ◌≤◌, List, [], ◌∷◌, ◌++◌, length, take, drop, false, Option, Some, None, IsUtf8}
use Rattle.std.specs.Prelude.{⊤}
use Rattle.std.specs.List.{list_any}
use Rattle.control_lines.specs.Lines.{is_feed, raw_lines}
use Rattle.control_lines.specs.declared.fault.ScriptFault.{ScriptFault}
use Rattle.control_lines.specs.declared.fault.ScriptFault.TheVariants.{NotUtf8, LineTooLong, Memory}
use Rattle.control_lines.specs.declared.source.RawLine.{RawLine}
use Rattle.control_lines.specs.declared.source.RawLine.TheVariants as raw_pieces

-- From `all` come these bytes, and none at the end alone, and `rest` is left.
abbrev pub GivesBytes : List ℕ → List ℕ → List ℕ → Type 0
GivesBytes bytes all rest = (all ≡ bytes ++ rest) × (bytes ≡ [] → all ≡ [])

-- Where the first line feed stands, if there is one.
abbrev pub IsFirstFeed : List ℕ → Option ℕ → Type 0
IsFirstFeed bytes None = list_any is_feed bytes ≡ false
IsFirstFeed bytes (Some at) = (list_any is_feed (take at bytes) ≡ false) × (bytes ≡ take at bytes ++ 10 ∷ drop (at + 1) bytes)

-- The same as `GivesPiece`, of the bytes as they were read, which may be no UTF-8.
abbrev pub GivesRaw : RawLine → List ℕ → List ℕ → Type 0
GivesRaw (raw_pieces.Line bytes) all rest = (raw_lines all ≡ bytes.items ∷ raw_lines rest) × (length bytes.items ≤ 65536)
GivesRaw (raw_pieces.Last bytes) all rest = (raw_lines all ≡ bytes.items ∷ []) × (length bytes.items ≤ 65536) × (rest ≡ [])
GivesRaw raw_pieces.End all rest = (raw_lines all ≡ []) × (rest ≡ [])

-- The fault of a line that begins with these bytes: they are too many, or there was no memory.
abbrev pub IsLengthFault : ℕ → List ℕ → ScriptFault → Type 0
IsLengthFault number bytes (LineTooLong line) = (line ≡ number) × (65536 < length bytes)
IsLengthFault number bytes Memory = ⊤
IsLengthFault number bytes _ = ⊥

-- The fault of a text of these bytes: they are no UTF-8, or there was no memory.
abbrev pub IsTextFault : ℕ → List ℕ → ScriptFault → Type 0
IsTextFault number bytes (NotUtf8 line) = (line ≡ number) × ¬ (IsUtf8 bytes)
IsTextFault number bytes Memory = ⊤
IsTextFault number bytes _ = ⊥
