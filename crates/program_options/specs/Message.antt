-- The message that lines are.
-- This project's own rule.
use Rattle.std.specs.Prelude.{ℕ, ◌≡◌, ◌≢◌, ◌==◌, ◌++◌, false, List, [], ◌∷◌}
use Rattle.std.specs.List.{list_any}
use Rattle.control_lines.specs.Lines.{is_feed}

-- these lines, each with a line feed before it
abbrev pub with_feeds : List (List ℕ) → List ℕ
with_feeds [] = []
with_feeds (line ∷ lines) = 10 ∷ line ++ with_feeds lines

-- the text of a message of these lines: one after another, with a line feed between two of them
abbrev pub message_text : List (List ℕ) → List ℕ
message_text [] = []
message_text (line ∷ lines) = line ++ with_feeds lines

-- a line that isn't empty, and has no line feed and no carriage return
pub record IsPlainLine (line : List ℕ) : Type 0 where
  pub some : line ≢ []
  pub feeds : list_any is_feed line ≡ false
  pub returns : list_any (λ c. c == 13) line ≡ false
