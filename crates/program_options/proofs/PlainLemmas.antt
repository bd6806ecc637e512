-- The lines of words in which there is no fault.
use Rattle.std.proofs.Common.{◌≡◌, ◌≢◌, ◌⊎◌, ℕ, ◌+◌, ◌||◌, Bool, true, false, List, [], ◌∷◌, ◌++◌, map, Option, Some, None, inl, inr, refl, sym, ap, subst, ◌∙◌}
use Rattle.std.specs.Prelude.{◌==◌, ⊤, cond, filter, fold, unwrap_or, is_none, if◌then◌else◌}
use Rattle.std.specs.List.{list_any, join_with_byte, position, position_from}
use Rattle.std.proofs.lemmas.Bool.{cases_Bool, cond-true, cond-false, eqb-true}
use Rattle.std.proofs.lemmas.Iterator.Adapters.{position_from-zero}
use Rattle.std.proofs.lemmas.List.Folds.{list_any-append}
use Rattle.bug_record.specs.Sets.{Each}
use Rattle.base_words.specs.Blanks.{is_control}
use Rattle.control_lines.specs.Lines.{is_feed}
use Rattle.control_text.specs.Tokens.{Text, Word, Token, said, separator, text_of, is_dot, without_comma, ends_command, said_at, tokens_of, tokens_from, first_run, later_runs, has_words, commands}
use Rattle.control_text.specs.BugPlaces.{Marked, mark, marked, takes_bugs, stands_for_last, names_bug}
use Rattle.control_text.specs.WordLines.{last_after, meant, meant_words, line_of, lines_after, lines, bad_word, bad_word_or, command_fault, first_fault}
use Rattle.control_text.specs.declared.fault.WordsFault.{WordsFault}
use Rattle.control_text.proofs.CutLemmas.{without_comma-some}
use Rattle.program_options.specs.Message.{IsPlainLine}

-- a text that isn't empty, and has no control character other than tab
pub record IsGoodText (text : List ℕ) : Type 0 where
  pub some : text ≢ []
  pub clean : list_any is_control text ≡ false

-- ---- tests

neither : (a b : Bool) → (a || b) ≡ false → (a ≡ false) × (b ≡ false)
neither true b h = absurd (cc)
neither false b h = (refl, h)

none_of : (a b : Bool) → a ≡ false → b ≡ false → (a || b) ≡ false
none_of a b e f = rw e f

no_byte : (n c : ℕ) → is_control n ≡ true → is_control c ≡ false → (c == n) ≡ false
no_byte n c is clean = elim (cases_Bool (c == n)) [
  | inl e ↦ absurd (let same : is_control n ≡ false = subst (λ k. is_control k ≡ false) (eqb-true c n e) clean in cc)
  | inr e ↦ e
]

no_bytes : (n : ℕ) (text : List ℕ) → is_control n ≡ true → list_any is_control text ≡ false → list_any (λ c. c == n) text ≡ false
no_bytes n [] is clean = refl
no_bytes n (c ∷ text) is clean =
    let both = neither (is_control c) (list_any is_control text) clean in
    none_of (c == n) (list_any (λ c. c == n) text) (no_byte n c is both.0) (no_bytes n text is both.1)

pub plain : (line : List ℕ) → IsGoodText line → IsPlainLine line
plain line good = record { some = good.some; feeds = no_bytes 10 line refl good.clean; returns = no_bytes 13 line refl good.clean }

-- ---- words

no_fault : (p : Text → Bool) (i : ℕ) (words : List Text) → position_from p i words ≡ None → Each (λ w. p w ≡ false) words
no_fault p i [] none = tt
no_fault p i (word ∷ words) none = elim (cases_Bool (p word)) [
  | inl bad ↦ absurd (let some : Some i ≡ None = sym (cond-true (p word) (Some i) (position_from p (i + 1) words) bad) ∙ none in cc)
  | inr good ↦ (good, no_fault p (i + 1) words (sym (cond-false (p word) (Some i) (position_from p (i + 1) words) good) ∙ none))
]

abbrev IsClean : Text → Type 0
IsClean word = list_any is_control word ≡ false

front_clean : (word front : List ℕ) → IsClean word → without_comma word ≡ Some front → IsClean front
front_clean word front clean is =
    (neither (list_any is_control front) (list_any is_control (44 ∷ []))
    (sym (list_any-append is_control front (44 ∷ [])) ∙ ap (list_any is_control) (sym (without_comma-some word front is)) ∙ clean)).0

or_clean : (word : List ℕ) (o : Option Text) → IsClean word → ((front : Text) → o ≡ Some front → IsClean front) → IsClean (unwrap_or o word)
or_clean word None clean fronts = clean
or_clean word (Some front) clean fronts = fronts front refl

text_clean : (word : List ℕ) → IsClean word → IsClean (text_of word)
text_clean word clean = elim (cases_Bool (is_dot word)) [
  | inl dot ↦ subst IsClean (sym (cond-true (is_dot word) [] (unwrap_or (without_comma word) word) dot)) refl
  | inr other ↦ subst IsClean (sym (cond-false (is_dot word) [] (unwrap_or (without_comma word) word) other))
      (or_clean word (without_comma word) clean (λ front is. front_clean word front clean is))
]

-- ---- tokens

abbrev IsGoodToken : Token → Type 0
IsGoodToken (said word) = IsGoodText word.text
IsGoodToken separator = ⊤

said_good : (place : ℕ) (text : Text) → IsClean text → Each IsGoodToken (said_at place text)
said_good place [] clean = tt
said_good place (c ∷ s) clean = (record { some = λ e. absurd (cc); clean = clean }, tt)

each_append : {T : Type 0} (P : T → Type 0) (xs ys : List T) → Each P xs → Each P ys → Each P (xs ++ ys)
each_append P [] ys first second = second
each_append P (x ∷ xs) ys first second = (first.0, each_append P xs ys first.1 second)

end_good : (b : Bool) → Each IsGoodToken (if b then separator ∷ [] else [])
end_good true = (tt, tt)
end_good false = tt

tokens_good : (place : ℕ) (words : List Text) → Each IsClean words → Each IsGoodToken (tokens_from place words)
tokens_good place [] clean = tt
tokens_good place (word ∷ words) clean =
    each_append IsGoodToken (tokens_of place word) (tokens_from (place + 1) words)
    (each_append IsGoodToken (said_at place (text_of word)) _ (said_good place (text_of word) (text_clean word clean.0)) (end_good (ends_command word)))
    (tokens_good (place + 1) words clean.1)

abbrev IsGoodWord : Word → Type 0
IsGoodWord word = IsGoodText word.text

first_good : (tokens : List Token) → Each IsGoodToken tokens → Each IsGoodWord (first_run tokens)
first_good [] good = tt
first_good (separator ∷ tokens) good = tt
first_good (said word ∷ tokens) good = (good.0, first_good tokens good.1)

later_good : (tokens : List Token) → Each IsGoodToken tokens → Each (Each IsGoodWord) (later_runs tokens)
later_good [] good = tt
later_good (separator ∷ tokens) good = (first_good tokens good.1, later_good tokens good.1)
later_good (said word ∷ tokens) good = later_good tokens good.1

pub record IsGoodCommand (words : List Word) : Type 0 where
  pub some : has_words words ≡ true
  pub each : Each IsGoodWord words

runs_good : (runs : List (List Word)) → Each (Each IsGoodWord) runs → Each IsGoodCommand (filter has_words runs)
runs_good [] good = tt
runs_good ([] ∷ runs) good = runs_good runs good.1
runs_good ((word ∷ words) ∷ runs) good = (record { some = refl; each = good.0 }, runs_good runs good.1)

-- ---- the lines of commands

abbrev IsGoodMark : Marked → Type 0
IsGoodMark m = IsGoodText m.word.text

marks_good : (at_bug_place : Bool) (words : List Word) → Each IsGoodWord words → Each IsGoodMark (map (mark at_bug_place) words)
marks_good at_bug_place [] good = tt
marks_good at_bug_place (word ∷ words) good = (good.0, marks_good at_bug_place words good.1)

marked_good : (words : List Word) → Each IsGoodWord words → Each IsGoodMark (marked words)
marked_good [] good = tt
marked_good (first ∷ []) good = (good.0, tt)
marked_good (first ∷ second ∷ others) good = (good.0, (good.1.0, marks_good (takes_bugs first.text) others good.1.1))

abbrev IsGoodLast : Option Text → Type 0
IsGoodLast None = ⊤
IsGoodLast (Some text) = IsGoodText text

last_good : (last : Option Text) (m : Marked) → IsGoodLast last → IsGoodMark m → IsGoodLast (last_after last m)
last_good last m before good = elim (cases_Bool (names_bug m)) [
  | inl is ↦ subst IsGoodLast (sym (cond-true (names_bug m) (Some m.word.text) last is)) good
  | inr other ↦ subst IsGoodLast (sym (cond-false (names_bug m) (Some m.word.text) last other)) before
]

or_good : (last : Option Text) (text : Text) → IsGoodLast last → IsGoodText text → IsGoodText (unwrap_or last text)
or_good None text before good = good
or_good (Some last) text before good = before

meant_good : (last : Option Text) (m : Marked) → IsGoodLast last → IsGoodMark m → IsGoodText (meant last m)
meant_good last m before good = elim (cases_Bool (stands_for_last m)) [
  | inl is ↦ subst IsGoodText (sym (cond-true (stands_for_last m) (unwrap_or last m.word.text) m.word.text is)) (or_good last m.word.text before good)
  | inr other ↦ subst IsGoodText (sym (cond-false (stands_for_last m) (unwrap_or last m.word.text) m.word.text other)) good
]

words_good : (last : Option Text) (ms : List Marked) → IsGoodLast last → Each IsGoodMark ms → Each IsGoodText (meant_words last ms)
words_good last [] before good = tt
words_good last (m ∷ ms) before good =
    (meant_good last m before good.0, words_good (last_after last m) ms (last_good last m before good.0) good.1)

fold_good : (last : Option Text) (ms : List Marked) → IsGoodLast last → Each IsGoodMark ms → IsGoodLast (fold last_after last ms)
fold_good last [] before good = before
fold_good last (m ∷ ms) before good = fold_good (last_after last m) ms (last_good last m before good.0) good.1

some_more : (word rest : List ℕ) → word ≢ [] → word ++ rest ≢ []
some_more [] rest some e = some refl
some_more (c ∷ word) rest some e = absurd (cc)

joined_good : (word : Text) (more : List Text) → Each IsGoodText (word ∷ more) → IsGoodText (join_with_byte 32 (word ∷ more))
joined_good word [] good = good.0
joined_good word (next ∷ more) good =
    let rest = joined_good next more good.1 in
    record {
      some = some_more word (32 ∷ join_with_byte 32 (next ∷ more)) good.0.some;
      clean = list_any-append is_control word (32 ∷ join_with_byte 32 (next ∷ more))
          ∙ none_of (list_any is_control word) (list_any is_control (join_with_byte 32 (next ∷ more))) good.0.clean rest.clean;
    }

marks_line : (last : Option Text) (m : Marked) (ms : List Marked) → IsGoodLast last → Each IsGoodMark (m ∷ ms) → IsGoodText (line_of last (m ∷ ms))
marks_line last m ms before good = joined_good (meant last m) (meant_words (last_after last m) ms) (words_good last (m ∷ ms) before good)

line_good : (last : Option Text) (words : List Word) → IsGoodLast last → IsGoodCommand words → IsGoodText (line_of last (marked words))
line_good last [] before good = absurd (let no = good.some in cc)
line_good last (first ∷ []) before good = marks_line last (mark false first) [] before (marked_good (first ∷ []) good.each)
line_good last (first ∷ second ∷ others) before good =
    marks_line last (mark false first) (mark true second ∷ map (mark (takes_bugs first.text)) others) before (marked_good (first ∷ second ∷ others) good.each)

after_good : (last : Option Text) (runs : List (List Word)) → IsGoodLast last → Each IsGoodCommand runs → Each IsPlainLine (lines_after last (map marked runs))
after_good last [] before good = tt
after_good last (run ∷ runs) before good = (
  plain (line_of last (marked run)) (line_good last run before good.0),
  after_good (fold last_after last (marked run)) runs (fold_good last (marked run) before (marked_good run good.0.each)) good.1,
)

-- ---- words without a fault

no_bad_word : (bad : Option ℕ) (fault : Option WordsFault) → is_none (bad_word_or bad fault) ≡ true → bad ≡ None
no_bad_word None fault none = refl
no_bad_word (Some place) fault none = absurd (cc)

pub lines_plain : (words : List Text) → is_none (first_fault words) ≡ true → Each IsPlainLine (lines words)
lines_plain words none =
    let found = no_bad_word (bad_word words) (command_fault (commands words)) none in
    let clean = no_fault (list_any is_control) 0 words (sym (position_from-zero (list_any is_control) words) ∙ found) in
    let tokens = tokens_good 0 words clean in
    after_good None (commands words) tt
    (runs_good (first_run (tokens_from 0 words) ∷ later_runs (tokens_from 0 words)) (first_good (tokens_from 0 words) tokens, later_good (tokens_from 0 words) tokens))
