-- The pieces in which a reader gives its bytes.
use Rattle.std.specs.Prelude.{◌≡◌, ℕ, ◌+◌, ◌≤◌, List, ◌++◌, length, take, Option}
use Rattle.std.specs.Io.KnownBytes.{Consumes}

-- the reader gave the bytes of the buffer from `filled` up to `total`, and those before stayed
pub record Came (old new : Option (List ℕ)) (before after : List ℕ) (filled total : ℕ) : Type 0 where
  pub within : total ≤ length after
  pub bytes : List ℕ
  pub count : filled + length bytes ≡ total
  pub behind : take total after ≡ take filled before ++ bytes
  pub took : Consumes old new bytes
