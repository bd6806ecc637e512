-- The lines of words read one after another, where each of them is read.
use Rattle.std.proofs.Common.{◌≡◌, ℕ, ◌+◌, Bool, true, false, List, [], ◌∷◌, ◌++◌, Option, Some, None, refl, ap, sym, ◌∙◌, append_assoc}
use Rattle.std.specs.Prelude.{if◌then◌else◌, ◌&&◌, map, filter, unwrap_or, fold}
use Rattle.std.specs.List.{join_with_byte}
use Rattle.control_text.specs.Tokens.{Text, Word, Token, separator, said_at, text_of, ends_command, tokens_from, first_run, later_runs, has_words}
use Rattle.control_text.specs.BugPlaces.{mark, marked, takes_bugs, is_it}
use Rattle.control_text.specs.WordLines.{lines, lines_after, line_of, meant, meant_words, last_after}
use Rattle.control_text.specs.Writer.{State, start, place_after, is_begun, meant_at, line_with, last_with, with_word, with_meant, text_taken, ended, then_ended, read}
use Rattle.control_text.specs.declared.bug_places.Place.{Place}
use Rattle.control_text.specs.declared.bug_places.Place.TheVariants.{First, Second, Later}
use Rattle.control_text.proofs.PlaceLemmas.{unread, unread_else, if_ended, end_token}

abbrev pub lines_else : Option State → (State → List Text) → List Text
lines_else None go_on = []
lines_else (Some s) go_on = go_on s

-- the lines, once these words are read and the last command has ended
abbrev pub finished : State → List Text → List Text
finished s [] = (ended s).lines
finished s (word ∷ words) = lines_else (read s word) (λ t. finished t words)

-- each word after a space
abbrev pub spaced : List Text → Text
spaced [] = []
spaced (text ∷ texts) = 32 ∷ (text ++ spaced texts)

joined : (text : Text) (texts : List Text) → join_with_byte 32 (text ∷ texts) ≡ text ++ spaced texts
joined text [] = sym (append-nil text)
  where
    append-nil : (xs : Text) → xs ++ [] ≡ xs
    append-nil [] = refl
    append-nil (x ∷ xs) = ap (λ ys. x ∷ ys) (append-nil xs)
joined text (more ∷ texts) = ap (λ t. text ++ (32 ∷ t)) (joined more texts)

-- the word that is written, where there is one
abbrev pub written_at : Place → Option Text → Text → Text
written_at place last word = unwrap_or (meant_at place last word) word

-- the line of a run whose first word stands at this place, after the line so far
abbrev pub run_line : Place → Text → Option Text → List Word → List Text
run_line place line last [] = if is_begun place then line ∷ [] else []
run_line place line last (word ∷ run) =
    run_line (place_after place word.text) (line_with place line (written_at place last word.text)) (last_with place last word.text) run

abbrev pub run_last : Place → Option Text → List Word → Option Text
run_last place last [] = last
run_last place last (word ∷ run) = run_last (place_after place word.text) (last_with place last word.text) run

meant-written : (it : Bool) (last : Option Text) (word : Text) →
    unwrap_or (if it then last else Some word) word ≡ (if it then unwrap_or last word else word)
meant-written true last word = refl
meant-written false last word = refl

line-later : (bugs : Bool) (line : Text) (last : Option Text) (run : List Word) →
    run_line (Later bugs) line last run ≡ (line ++ spaced (meant_words last (map (mark bugs) run))) ∷ []
line-later bugs line last [] = ap (λ t. t ∷ []) (append-nil line)
  where
    append-nil : (xs : Text) → xs ≡ xs ++ []
    append-nil [] = refl
    append-nil (x ∷ xs) = ap (λ ys. x ∷ ys) (append-nil xs)
line-later bugs line last (word ∷ run) =
    let m = written_at (Later bugs) last word.text in
    let last' = last_with (Later bugs) last word.text in
    let rest = spaced (meant_words last' (map (mark bugs) run)) in
    line-later bugs (line ++ (32 ∷ m)) last' run
    ∙ ap (λ t. t ∷ []) (append_assoc line (32 ∷ m) rest)
    ∙ ap (λ t. (line ++ (32 ∷ (t ++ rest))) ∷ []) (meant-written (bugs && is_it word.text) last word.text)

last-later : (bugs : Bool) (last : Option Text) (run : List Word) →
    run_last (Later bugs) last run ≡ fold last_after last (map (mark bugs) run)
last-later bugs last [] = refl
last-later bugs last (word ∷ run) = last-later bugs (last_with (Later bugs) last word.text) run

line-first : (line : Text) (last : Option Text) (word : Word) (run : List Word) →
    run_line First line last (word ∷ run) ≡ line_of last (marked (word ∷ run)) ∷ []
line-first line last word [] = refl
line-first line last word (next ∷ run) =
    let bugs = takes_bugs word.text in
    let m = written_at (Second bugs) last next.text in
    let last' = last_with (Second bugs) last next.text in
    let rest = meant_words last' (map (mark bugs) run) in
    line-later bugs (word.text ++ (32 ∷ m)) last' run
    ∙ ap (λ t. t ∷ []) (append_assoc word.text (32 ∷ m) (spaced rest))
    ∙ ap (λ t. (word.text ++ (32 ∷ (t ++ spaced rest))) ∷ []) (meant-written (is_it next.text) last next.text)
    ∙ ap (λ t. t ∷ []) (sym (joined word.text (meant last (mark true next) ∷ rest)))

last-first : (last : Option Text) (run : List Word) → run_last First last run ≡ fold last_after last (marked run)
last-first last [] = refl
last-first last (word ∷ []) = refl
last-first last (word ∷ next ∷ run) = last-later (takes_bugs word.text) (last_with (Second (takes_bugs word.text)) last next.text) run

-- the lines of tokens, after the line so far
abbrev pub lines_rest : Place → Text → Option Text → List Token → List Text
lines_rest place line last tokens =
    run_line place line last (first_run tokens)
    ++ lines_after (run_last place last (first_run tokens)) (map marked (filter has_words (later_runs tokens)))

lines-runs : (line : Text) (last : Option Text) (run : List Word) (runs : List (List Word)) →
    run_line First line last run ++ lines_after (run_last First last run) (map marked (filter has_words runs))
    ≡ lines_after last (map marked (filter has_words (run ∷ runs)))
lines-runs line last [] runs = refl
lines-runs line last (word ∷ run) runs =
    let rest = map marked (filter has_words runs) in
    ap (λ l. l ++ lines_after (run_last First last (word ∷ run)) rest) (line-first line last word run)
    ∙ ap (λ l. line_of last (marked (word ∷ run)) ∷ lines_after l rest) (last-first last (word ∷ run))

lines-ended : (ls : List Text) (line : Text) (place : Place) (last : Option Text) (tokens : List Token) →
    let s : State = record { lines = ls; line = line; place = place; last = last } in
    (ended s).lines ++ lines_rest (ended s).place (ended s).line (ended s).last tokens ≡ ls ++ lines_rest place line last (separator ∷ tokens)
lines-ended ls line First last tokens = ap (λ l. ls ++ l) (lines-runs line last (first_run tokens) (later_runs tokens))
lines-ended ls line (Second bugs) last tokens =
    append_assoc ls (line ∷ []) _ ∙ ap (λ l. ls ++ (line ∷ l)) (lines-runs [] last (first_run tokens) (later_runs tokens))
lines-ended ls line (Later bugs) last tokens =
    append_assoc ls (line ∷ []) _ ∙ ap (λ l. ls ++ (line ∷ l)) (lines-runs [] last (first_run tokens) (later_runs tokens))

abbrev pub lines_all : State → List Token → List Text
lines_all s tokens = s.lines ++ lines_rest s.place s.line s.last tokens

lines-if_ended : (ends : Bool) (s : State) (tokens : List Token) → lines_all (if_ended ends s) tokens ≡ lines_all s (end_token ends ++ tokens)
lines-if_ended false s tokens = refl
lines-if_ended true s tokens = lines-ended s.lines s.line s.place s.last tokens

lines-word : (s : State) (place : ℕ) (c : ℕ) (text : Text) (written : Option Text) (ends : Bool) (tokens : List Token) (go_on : State → Option ℕ) (lines_on : State → List Text)
    → ((t : State) → go_on t ≡ None → lines_on t ≡ lines_all t tokens)
    → unread_else place (then_ended ends (with_meant s (c ∷ text) written)) go_on ≡ None
    → lines_else (then_ended ends (with_meant s (c ∷ text) written)) lines_on
    ≡ lines_all (with_word s (c ∷ text) (unwrap_or written (c ∷ text))) (end_token ends ++ tokens)
lines-word s place c text None ends tokens go_on lines_on h e = absurd (cc)
lines-word s place c text (Some written) ends tokens go_on lines_on h e =
    h (if_ended ends (with_word s (c ∷ text) written)) e ∙ lines-if_ended ends (with_word s (c ∷ text) written) tokens

lines-said : (s : State) (place : ℕ) (c : ℕ) (text : Text) (ends : Bool) (tokens : List Token) →
    lines_all (with_word s (c ∷ text) (written_at s.place s.last (c ∷ text))) (end_token ends ++ tokens)
    ≡ lines_all s ((said_at place (c ∷ text) ++ end_token ends) ++ tokens)
lines-said s place c text true tokens = refl
lines-said s place c text false tokens = refl

lines-text : (place : ℕ) (s : State) (text : Text) (ends : Bool) (tokens : List Token) (go_on : State → Option ℕ) (lines_on : State → List Text)
    → ((t : State) → go_on t ≡ None → lines_on t ≡ lines_all t tokens)
    → unread_else place (then_ended ends (text_taken s text)) go_on ≡ None
    → lines_else (then_ended ends (text_taken s text)) lines_on ≡ lines_all s ((said_at place text ++ end_token ends) ++ tokens)
lines-text place s [] ends tokens go_on lines_on h e = h (if_ended ends s) e ∙ lines-if_ended ends s tokens
lines-text place s (c ∷ text) ends tokens go_on lines_on h e =
    lines-word s place c text (meant_at s.place s.last (c ∷ text)) ends tokens go_on lines_on h e
    ∙ lines-said s place c text ends tokens

lines-none : (ls : List Text) (line : Text) (place : Place) (last : Option Text) →
    (ended (record { lines = ls; line = line; place = place; last = last })).lines ≡ ls ++ lines_rest place line last []
lines-none ls line First last = sym (append-nil ls)
  where
    append-nil : (xs : List Text) → xs ++ [] ≡ xs
    append-nil [] = refl
    append-nil (x ∷ xs) = ap (λ ys. x ∷ ys) (append-nil xs)
lines-none ls line (Second bugs) last = refl
lines-none ls line (Later bugs) last = refl

finished-rest : (place : ℕ) (s : State) (words : List Text) → unread place s words ≡ None → finished s words ≡ lines_all s (tokens_from place words)
finished-rest place s [] e = lines-none s.lines s.line s.place s.last
finished-rest place s (word ∷ words) e =
    lines-text place s (text_of word) (ends_command word) (tokens_from (place + 1) words)
    (λ t. unread (place + 1) t words) (λ t. finished t words) (λ t. finished-rest (place + 1) t words) e

pub finished-lines : (words : List Text) → unread 0 start words ≡ None → finished start words ≡ lines words
finished-lines words e =
    let tokens = tokens_from 0 words in
    finished-rest 0 start words e ∙ lines-runs [] None (first_run tokens) (later_runs tokens)
