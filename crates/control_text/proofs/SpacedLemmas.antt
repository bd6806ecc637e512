-- Lines of a command's word and words after spaces.
use Rattle.std.proofs.Common.{◌≡◌, ℕ, ◌+◌, Bool, true, false, not, cond, List, [], ◌∷◌, ◌++◌, length, drop, Option, Some, Result}
use Rattle.std.proofs.Common.{Ok, Err, codes, refl, ap, sym, ◌∙◌, subst, append-nil, append_assoc, arith}
use Rattle.std.specs.Prelude.{IfOk, String, string_bytes, ⊤}
use Rattle.std.specs.Option.{ok_or}
use Rattle.std.specs.List.{list_any, position_or_len}
use Rattle.std.proofs.lemmas.Bool.{cond-true, cond-false, or_parts, and_left, or_from, not_from_true, not_from_false, false≢true}
use Rattle.std.proofs.lemmas.List.Folds.{list_any-append}
use Rattle.std.proofs.Math.Seq.{drop-append_seam}
use Rattle.base_words.specs.Blanks.{is_blank, is_control, begins_blank}
use Rattle.base_words.specs.AnyCase.{is_word}
use Rattle.bug_record.specs.declared.command.Command.{Command}
use Rattle.bug_record.specs.declared.command.Refusal.{Refusal}
use Rattle.bug_record.specs.declared.command.Refusal.TheVariants.{Unknown, Malformed}
use Rattle.base_words.specs.declared.named.Named.{Named}
use Rattle.control_grammar.specs.declared.command_word.CommandWord.{CommandWord}
use Rattle.control_grammar.specs.declared.line.Line.{Line}
use Rattle.control_grammar.specs.declared.line.Line.TheVariants.{Comment, Stop, Do}
use Rattle.base_words.specs.Words.{is_blank_or_comma, words_with_commas}
use Rattle.base_words.specs.Words.{has_bytes, words, EndsWord, trimmed, first_word, after_word, without_last_blanks}
use Rattle.control_grammar.specs.CommandWords.{command_word}
use Rattle.control_grammar.specs.Commands.{and_read, command_of}
use Rattle.control_grammar.specs.Lines.{begins_hash, is_stop_word, is_stop_line, command_reading, reading_of_words, reading}
use Rattle.control_text.specs.Spelling.{joined_by_blanks}
use Rattle.control_text.specs.Spaces.{after_spaces}
use Rattle.base_words.proofs.WordLemmas.{words-nil, words-separator, words-word, without_first-separator, words-first, words-none}
use Rattle.control_parser.proofs.TextLemmas.{unblanked_first}
use Rattle.control_text.proofs.PlainWords.{IsPlainWord, graphic-blank, graphic-control}

-- the first place of a byte that stands after a text without such bytes
pub position-is : (p : ℕ → Bool) (s t : List ℕ) → list_any p s ≡ false → EndsWord p t → position_or_len p (s ++ t) ≡ length s
position-is p [] [] h e = refl
position-is p [] (c ∷ t) h e = cond-false (not (p c)) _ _ (not_from_true (p c) e)
position-is p (c ∷ s) t h e =
    let q = or_parts (p c) (list_any p s) h in
    let one = cond-true (not (p c)) (1 + position_or_len p (s ++ t)) 0 (not_from_false (p c) q.0) in
    let more = position-is p s t q.1 e in
    one ∙ omega arith

begins_word : (w rest : List ℕ) → has_bytes w ≡ true → list_any is_blank w ≡ false → begins_blank (w ++ rest) ≡ false
begins_word [] rest some whole = absurd (false≢true some)
begins_word (c ∷ w) rest some whole = (or_parts (is_blank c) (list_any is_blank w) whole).0

-- the text after a word
pub after_word-is : (w rest : List ℕ) → has_bytes w ≡ true → list_any is_blank w ≡ false → EndsWord is_blank rest
    → after_word (w ++ rest) ≡ rest
after_word-is w rest some whole ends =
    ap (λ t. drop (position_or_len is_blank t) t) (unblanked_first (w ++ rest) (begins_word w rest some whole))
    ∙ ap (λ n. drop n (w ++ rest)) (position-is is_blank w rest whole ends)
    ∙ drop-append_seam w rest

-- the first word of a text is the first of its words
pub first_word-is : (s n : List ℕ) (more : List (List ℕ)) → words s ≡ n ∷ more → first_word s ≡ n
first_word-is s n more e = by_bytes (has_bytes (first_word s)) refl
  where
    by_bytes : (some : Bool) → has_bytes (first_word s) ≡ some → first_word s ≡ n
    by_bytes true h = let first = words-first is_blank s (first_word s) (after_word s) refl refl h in cc (first, e)
    by_bytes false h = let none = words-none is_blank s (first_word s) refl h in absurd (cc (none, e))

pub after_word-space : (s : List ℕ) → after_word (32 ∷ s) ≡ after_word s
after_word-space s = ap (λ t. drop (position_or_len is_blank t) t) (without_first-separator is_blank 32 s refl)

pub trimmed-space : (s : List ℕ) → trimmed (32 ∷ s) ≡ trimmed s
trimmed-space s = ap without_last_blanks (without_first-separator is_blank 32 s refl)

-- a line that begins with a command's word
pub record IsCommandWord (command : CommandWord) (w : List ℕ) : Type 0 where
  pub some : has_bytes w ≡ true
  pub whole : list_any is_blank w ≡ false
  pub clean : list_any is_control w ≡ false
  pub hash : begins_hash w ≡ false
  pub stop : is_stop_word w ≡ false
  pub thank : is_word w (codes "thank") ≡ false
  pub is : command_word w ≡ Some command

no_stop : (w : List ℕ) (ws : List (List ℕ)) → is_stop_word w ≡ false → is_word w (codes "thank") ≡ false
    → is_stop_line (w ∷ ws) ≡ false
no_stop w [] stop thank = stop
no_stop w (s ∷ []) stop thank = and_left (is_word w (codes "thank")) (is_word s (codes "you")) thank
no_stop w (s ∷ t ∷ ws) stop thank = refl

pub reading-command : (command : CommandWord) (w rest : List ℕ) (c : Command Named) → IsCommandWord command w
    → EndsWord is_blank rest → list_any is_control rest ≡ false → command_of command rest ≡ Ok c → reading (w ++ rest) ≡ Ok (Do c)
unfolding reading
reading-command command w rest c h ends clean is =
    let text = w ++ rest in
    let as_line : Result (Command Named) Refusal → Result Line Refusal = λ r. and_read r (λ meant. Ok (Do meant)) in
    let of_word : Option CommandWord → Result Line Refusal =
    λ o. and_read (ok_or o Unknown) (λ found. command_reading found text) in
    let all : list_any is_control text ≡ false =
    list_any-append is_control w rest ∙ or_from (list_any is_control w) (list_any is_control rest) h.clean clean in
    ap (reading_of_words text) (words-word is_blank w rest h.some h.whole ends)
    ∙ cond-false (begins_hash w) (Ok Comment) (cond (is_stop_line (w ∷ words rest)) (Ok Stop) (of_word (command_word w))) h.hash
    ∙ cond-false (is_stop_line (w ∷ words rest)) (Ok Stop) (of_word (command_word w)) (no_stop w (words rest) h.stop h.thank)
    ∙ ap of_word h.is
    ∙ cond-false (list_any is_control text) (Err Malformed) (as_line (command_of command (after_word text))) all
    ∙ ap (λ s. as_line (command_of command s)) (after_word-is w rest h.some h.whole ends)
    ∙ ap as_line is

pub joined_spaces : (word : List ℕ) (more : List (List ℕ)) → joined_by_blanks (word ∷ more) ≡ word ++ after_spaces more
joined_spaces word [] = sym (append-nil word)
joined_spaces word (next ∷ more) = ap (λ s. word ++ 32 ∷ s) (joined_spaces next more)

-- what is written behind words
after_spaces-append : (ws more : List (List ℕ)) → after_spaces (ws ++ more) ≡ after_spaces ws ++ after_spaces more
after_spaces-append [] more = refl
after_spaces-append (w ∷ ws) more =
    ap (λ s. 32 ∷ (w ++ s)) (after_spaces-append ws more) ∙ ap (λ s. 32 ∷ s) (sym (append_assoc w (after_spaces ws) (after_spaces more)))

pub joined_more : (before after word : List ℕ) (ws more : List (List ℕ)) → before ≡ joined_by_blanks (word ∷ ws)
    → after ≡ before ++ after_spaces more → after ≡ joined_by_blanks (word ∷ (ws ++ more))
joined_more before after word ws more is then_more =
    then_more
    ∙ ap (λ s. s ++ after_spaces more) (is ∙ joined_spaces word ws)
    ∙ append_assoc word (after_spaces ws) (after_spaces more)
    ∙ ap (λ s. word ++ s) (sym (after_spaces-append ws more))
    ∙ sym (joined_spaces word (ws ++ more))

-- what is written word by word, once no word is left
pub joined_last : (line word : List ℕ) (more rest : List (List ℕ)) → line ++ after_spaces rest ≡ word ++ after_spaces more
    → rest ≡ [] → line ≡ joined_by_blanks (word ∷ more)
joined_last line word more rest h none =
    sym (append-nil line) ∙ ap (λ ws. line ++ after_spaces ws) (sym none) ∙ h ∙ sym (joined_spaces word more)

-- words after spaces
abbrev pub ArePlain : List (List ℕ) → Type 0
ArePlain [] = ⊤
ArePlain (w ∷ ws) = IsPlainWord w × ArePlain ws

pub ends-after_spaces : (ws : List (List ℕ)) → EndsWord is_blank (after_spaces ws)
ends-after_spaces [] = tt
ends-after_spaces (w ∷ ws) = refl

-- one such word, and what follows it
pub words-space : (w : List ℕ) (ws : List (List ℕ)) → IsPlainWord w → words (after_spaces (w ∷ ws)) ≡ w ∷ words (after_spaces ws)
words-space w ws h =
    words-separator is_blank 32 (w ++ after_spaces ws) refl
    ∙ words-word is_blank w (after_spaces ws) h.some (graphic-blank w h.graphic) (ends-after_spaces ws)

pub words-spaces : (ws : List (List ℕ)) → ArePlain ws → words (after_spaces ws) ≡ ws
words-spaces [] h = words-nil is_blank
words-spaces (w ∷ ws) h = words-space w ws h.0 ∙ ap (λ r. w ∷ r) (words-spaces ws h.1)

pub after_word-spaces : (w : List ℕ) (ws : List (List ℕ)) → IsPlainWord w → after_word (after_spaces (w ∷ ws)) ≡ after_spaces ws
after_word-spaces w ws h =
    after_word-space (w ++ after_spaces ws)
    ∙ after_word-is w (after_spaces ws) h.some (graphic-blank w h.graphic) (ends-after_spaces ws)

-- words between which no comma stands
abbrev pub AreWhole : List (List ℕ) → Type 0
AreWhole [] = ⊤
AreWhole (w ∷ ws) = IsPlainWord w × (list_any is_blank_or_comma w ≡ false) × AreWhole ws

pub whole_plain : (ws : List (List ℕ)) → AreWhole ws → ArePlain ws
whole_plain [] h = tt
whole_plain (w ∷ ws) h = (h.0, whole_plain ws h.2)

ends-spaces : (ws : List (List ℕ)) → EndsWord is_blank_or_comma (after_spaces ws)
ends-spaces [] = tt
ends-spaces (w ∷ ws) = refl

pub commas-spaces : (ws : List (List ℕ)) → AreWhole ws → words_with_commas (after_spaces ws) ≡ ws
commas-spaces [] h = words-nil is_blank_or_comma
commas-spaces (w ∷ ws) h =
    let word = h.0 in
    words-separator is_blank_or_comma 32 (w ++ after_spaces ws) refl
    ∙ words-word is_blank_or_comma w (after_spaces ws) word.some h.1 (ends-spaces ws) ∙ ap (λ r. w ∷ r) (commas-spaces ws h.2)

abbrev pub AreClean : List (List ℕ) → Type 0
AreClean [] = ⊤
AreClean (w ∷ ws) = (list_any is_control w ≡ false) × AreClean ws

pub clean-spaces : (ws : List (List ℕ)) → AreClean ws → list_any is_control (after_spaces ws) ≡ false
clean-spaces [] h = refl
clean-spaces (w ∷ ws) h =
    list_any-append is_control w (after_spaces ws)
    ∙ or_from (list_any is_control w) (list_any is_control (after_spaces ws)) h.0 (clean-spaces ws h.1)

pub plain_clean : (ws : List (List ℕ)) → ArePlain ws → AreClean ws
plain_clean [] h = tt
plain_clean (w ∷ ws) h = let first = h.0 in (graphic-control w first.graphic, plain_clean ws h.1)

-- what is written is equal to what was to be written
pub written_as : {X E : Type 0} (r : Result (String X) E) (s t : List ℕ) → s ≡ t → IfOk r (λ w. string_bytes w ≡ s)
    → IfOk r (λ w. string_bytes w ≡ t)
written_as r s t e h = subst (λ (u : List ℕ). IfOk r (λ w. string_bytes w ≡ u)) e h
