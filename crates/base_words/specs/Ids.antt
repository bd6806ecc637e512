-- The ids of messages.
-- This project's own rule.
use Rattle.std.specs.Prelude.{ℕ, ◌&&◌, nat_le, Bool, IsTrue, List, length}
use Rattle.std.specs.List.{list_all}

-- a byte of an id: a visible ASCII character, whose code is from 33 to 126
abbrev pub is_visible : ℕ → Bool
is_visible c = nat_le 33 c && nat_le c 126

-- an id: 1 to 100 visible ASCII characters
unfoldable pub is_id : List ℕ → Bool
is_id s = nat_le 1 (length s) && nat_le (length s) 100 && list_all is_visible s

abbrev pub IsId : List ℕ → Type 0
IsId s = IsTrue (is_id s)
