-- How a script is read: line by line, each line checked as it comes.
-- This project's own rule.
use Rattle.std.specs.Prelude.{◌≡◌, ℕ, ◌<◌, ◌≤◌, List, [], ◌∷◌, ◌++◌, length, false, Option, Some, IsUtf8}
use Rattle.std.specs.Prelude.{⊤}
use Rattle.std.specs.List.{list_any}
use Rattle.control_lines.specs.Lines.{without_return, is_feed, raw_lines}
use Rattle.control_lines.specs.declared.fault.ScriptFault.{ScriptFault}
use Rattle.control_lines.specs.declared.fault.ScriptFault.TheVariants.{Read, Write, NotUtf8, LineTooLong, Memory, Store}
use Rattle.control_lines.specs.declared.source.Piece.{Piece}
use Rattle.control_lines.specs.declared.source.Piece.TheVariants as pieces

-- A line is good, as it was read, if it has at most 65,536 bytes and is UTF-8.
-- A carriage return counts; the line feed is no part of it.
pub record IsGoodLine (raw : List ℕ) : Type 0 where
  pub short : length raw ≤ 65536
  pub utf8 : IsUtf8 raw

-- From `all` comes this piece, and `rest` is left: a line; the last line, with which nothing is
-- left; or nothing.
abbrev pub GivesPiece : Piece → List ℕ → List ℕ → Type 0
GivesPiece (pieces.Line line) all rest =
    (raw : List ℕ) × (raw_lines all ≡ raw ∷ raw_lines rest) × IsGoodLine raw × (line ≡ without_return raw)
GivesPiece (pieces.Last line) all rest =
    (raw : List ℕ) × (raw_lines all ≡ raw ∷ []) × IsGoodLine raw × (line ≡ without_return raw) × (rest ≡ [])
GivesPiece pieces.End all rest = (raw_lines all ≡ []) × (rest ≡ [])

-- The fault is that of the first line of `all`, which has this number.
-- A line that is too long and no UTF-8 is too long.
abbrev pub IsLineFault : ℕ → ScriptFault → List ℕ → Type 0
IsLineFault number (NotUtf8 line) all =
    (line ≡ number) × (raw : List ℕ) × (more : List (List ℕ)) × (raw_lines all ≡ raw ∷ more) × (length raw ≤ 65536)
    × ¬ (IsUtf8 raw)
IsLineFault number (LineTooLong line) all =
    (line ≡ number) × (raw : List ℕ) × (more : List (List ℕ)) × (raw_lines all ≡ raw ∷ more) × (65536 < length raw)
IsLineFault number Read all = ⊤
IsLineFault number Memory all = ⊤
IsLineFault number Write all = ⊥
IsLineFault number (Store fault) all = ⊥

-- The faults that the reading of the line with this number may have.
abbrev pub IsReadingFault : ℕ → ScriptFault → Type 0
IsReadingFault number Read = ⊤
IsReadingFault number Memory = ⊤
IsReadingFault number (NotUtf8 line) = line ≡ number
IsReadingFault number (LineTooLong line) = line ≡ number
IsReadingFault number Write = ⊥
IsReadingFault number (Store fault) = ⊥

-- Where the bytes that a reader has left are known, P is true of them.
pub record Known (old : Option (List ℕ)) (P : List ℕ → Type 0) : Type 0 where
  pub known : (xs : List ℕ) → old ≡ Some xs → P xs

-- Where the bytes that a reader has left are known, it comes to known bytes, and P is true of both.
pub record Left (old new : Option (List ℕ)) (P : List ℕ → List ℕ → Type 0) : Type 0 where
  pub known : (xs : List ℕ) → old ≡ Some xs → (ys : List ℕ) × (new ≡ Some ys) × P xs ys

-- From `all` a front of its first line was taken, of at most 65,536 bytes and without a line feed,
-- and `rest` is left.
pub record IsBegun (all rest : List ℕ) : Type 0 where
  pub front : List ℕ
  pub together : all ≡ front ++ rest
  pub short : length front ≤ 65536
  pub unended : list_any is_feed front ≡ false
