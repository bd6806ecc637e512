-- The parts of a request's target, and their texts.
-- Which they are is this project's own rule.
use Rattle.std.specs.Prelude.{ℕ, ◌==◌, Bool, List, Option, Some, None, if◌then◌else◌}
use Rattle.std.specs.List.{before_first}
use Rattle.std.specs.Str.{is_utf8, byte}
use Rattle.percent_encoding.specs.Percent.{percent_decode}

abbrev pub is_slash : ℕ → Bool
is_slash b = b == byte "/"

-- the path of a target: what stands before its first `?`, or all of it
abbrev pub path_of : List ℕ → List ℕ
path_of target = before_first (λ b. b == byte "?") target

-- The text of a part: its bytes with each escape decoded, once, where these are UTF-8 (the URL
-- Standard's percent-decoding).
unfoldable pub decoded_text : List ℕ → Option (List ℕ)
decoded_text part = if is_utf8 (percent_decode part) then Some (percent_decode part) else None
