-- The text of lines.
use Rattle.std.proofs.Common.{◌≡◌, ℕ, List, [], ◌∷◌, ◌++◌, ◌∙◌, append_assoc}
use Rattle.program_options.specs.Message.{with_feeds}

-- one line more, with the line feed before it
pub feeds_step : (text line : List ℕ) (lines : List (List ℕ))
    → ((text ++ 10 ∷ []) ++ line) ++ with_feeds lines ≡ text ++ with_feeds (line ∷ lines)
feeds_step text line lines =
    append_assoc (text ++ 10 ∷ []) line (with_feeds lines) ∙ append_assoc text (10 ∷ []) (line ++ with_feeds lines)
