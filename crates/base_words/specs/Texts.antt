-- Texts: titles, addresses and senders.
-- This project's own rule.
use Rattle.std.specs.Prelude.{ℕ, ◌&&◌, not, nat_le, Bool, IsTrue, List, length, reverse, Option, Some, None, ⊤}
use Rattle.std.specs.List.{list_all}
use Rattle.std.specs.Str.{is_utf8}
use Rattle.base_words.specs.Blanks.{is_control, begins_blank}

abbrev pub ends_blank : List ℕ → Bool
ends_blank s = begins_blank (reverse s)

-- A text of 1 to 200 bytes: no control character other than tab, and no blank at its beginning or
-- end.
unfoldable pub is_text : List ℕ → Bool
is_text s =
    nat_le 1 (length s) && nat_le (length s) 200
    && list_all (λ c. not (is_control c)) s
    && not (begins_blank s) && not (ends_blank s)

abbrev pub IsText : List ℕ → Type 0
IsText s = IsTrue (is_text s)

-- A text that is kept: it is UTF-8 too, as whatever is handed in as a `&str` or a `Text`.
abbrev pub IsGoodText : List ℕ → Type 0
IsGoodText s = IsText s × IsTrue (is_utf8 s)

-- what holds of a value, if there is one
abbrev pub IfGiven : {T : Type 0} → (T → Type 0) → Option T → Type 0
IfGiven P None = ⊤
IfGiven P (Some x) = P x
