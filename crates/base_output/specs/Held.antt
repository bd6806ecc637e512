-- What a writer that holds bytes back has been given.
use Rattle.std.specs.Prelude.{ℕ, List, drop, Option}
use Rattle.std.specs.Io.KnownBytes.{append_known}

-- Where the contents of the writer that it hands on to are known: these, and then what is held, the
-- bytes after those that are handed on.
abbrev pub given : Option (List ℕ) → ℕ → List ℕ → Option (List ℕ)
given contents start bytes = append_known contents (drop start bytes)
