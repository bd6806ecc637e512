-- What a source has of its reader.
-- This project's own rule.
use Rattle.std.specs.Prelude.{ℕ, ◌+◌, ◌*◌, List, length}

-- The bytes that were read and not yet given, and how many reads may follow.
pub record Buffered : Type 0 where
  pub unread : List ℕ
  pub reads_left : ℕ

-- the most bytes that it may still give: a read gives 8,192 at most
abbrev pub bytes_left : Buffered → ℕ
bytes_left s = length s.unread + 8192 * s.reads_left
