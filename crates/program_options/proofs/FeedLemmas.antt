-- The text of a message that is made of lines, cut into lines.
use Rattle.std.proofs.Common.{◌≡◌, ◌≢◌, ℕ, ◌<◌, Bool, true, false, ◌||◌, List, [], ◌∷◌, ◌++◌, length, map, append-nil, refl, sym, ap, ◌∙◌, arith}
use Rattle.std.specs.Prelude.{◌==◌}
use Rattle.std.specs.List.{list_any}
use Rattle.std.proofs.lemmas.Bool.{false≢true}
use Rattle.bug_record.specs.Sets.{Each}
use Rattle.control_lines.specs.Lines.{without_return, raw_lines, lines_of}
use Rattle.control_lines.proofs.LineLemmas.{raw_lines-first, raw_lines-last, without_return-none}
use Rattle.program_options.specs.Message.{message_text, IsPlainLine}

some_bytes : (line : List ℕ) → line ≢ [] → 0 < length line
some_bytes [] h = absurd (h refl)
some_bytes (c ∷ line) h = omega arith

-- a carriage return at the end is one of the bytes
has_return : (front : List ℕ) → list_any (λ c. c == 13) (front ++ 13 ∷ []) ≡ true
has_return [] = refl
has_return (c ∷ front) = ap (λ t. (c == 13) || t) (has_return front) ∙ last (c == 13)
  where
    last : (a : Bool) → (a || true) ≡ true
    last true = refl
    last false = refl

pieces : (line : List ℕ) (lines : List (List ℕ)) → Each IsPlainLine (line ∷ lines) → raw_lines (message_text (line ∷ lines)) ≡ line ∷ lines
pieces line [] h = ap raw_lines (append-nil line) ∙ raw_lines-last line (some_bytes line h.0.some) h.0.feeds
pieces line (next ∷ more) h = raw_lines-first line (message_text (next ∷ more)) h.0.feeds ∙ ap (λ ls. line ∷ ls) (pieces next more h.1)

whole : (lines : List (List ℕ)) → Each IsPlainLine lines → map without_return lines ≡ lines
whole [] h = refl
whole (line ∷ lines) h =
    ap (λ (l : List ℕ). l ∷ map without_return lines)
    (without_return-none line (λ front e. false≢true (sym h.0.returns ∙ ap (list_any (λ c. c == 13)) e ∙ has_return front)))
    ∙ ap (λ ls. line ∷ ls) (whole lines h.1)

pub cut_again : (lines : List (List ℕ)) → Each IsPlainLine lines → lines_of (message_text lines) ≡ lines
unfolding lines_of
cut_again [] h = refl
cut_again (line ∷ lines) h = ap (map without_return) (pieces line lines h) ∙ whole (line ∷ lines) h
