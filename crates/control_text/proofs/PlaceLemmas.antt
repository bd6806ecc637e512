-- Words read one after another, up to one that is an `it` with no bug to stand for.
use Rattle.std.proofs.Common.{◌≡◌, ℕ, ◌+◌, Bool, true, false, List, [], ◌∷◌, ◌++◌, Option, Some, None, refl, ap, sym, ◌∙◌}
use Rattle.std.specs.Prelude.{if◌then◌else◌, ◌&&◌, map, filter}
use Rattle.std.specs.List.{flat_map}
use Rattle.control_text.specs.Tokens.{Text, Word, Token, separator, said_at, text_of, ends_command, tokens_from, first_run, later_runs, has_words}
use Rattle.control_text.specs.BugPlaces.{Marked, mark, marked, takes_bugs, is_it, is_bug_word}
use Rattle.control_text.specs.WordLines.{unset_it}
use Rattle.control_text.specs.Unset.{unset}
use Rattle.control_text.specs.Writer.{State, start, place_after, stands_for_bug, with_word, with_meant, text_taken, ended, then_ended, read}
use Rattle.control_text.specs.declared.bug_places.Place.{Place}
use Rattle.control_text.specs.declared.bug_places.Place.TheVariants.{First, Second, Later}

abbrev pub unread_else : ℕ → Option State → (State → Option ℕ) → Option ℕ
unread_else place None go_on = Some place
unread_else place (Some s) go_on = go_on s

-- the place of the first word that is not read
abbrev pub unread : ℕ → State → List Text → Option ℕ
unread place s [] = None
unread place s (word ∷ words) = unread_else place (read s word) (λ t. unread (place + 1) t words)

-- the words of a run whose first one stands at this place, with their marks
abbrev pub marks_from : Place → List Word → List Marked
marks_from place [] = []
marks_from place (word ∷ run) = mark (stands_for_bug place) word ∷ marks_from (place_after place word.text) run

marks-later : (bugs : Bool) (run : List Word) → map (mark bugs) run ≡ marks_from (Later bugs) run
marks-later bugs [] = refl
marks-later bugs (word ∷ run) = ap (λ ms. mark bugs word ∷ ms) (marks-later bugs run)

pub marked-from : (run : List Word) → marked run ≡ marks_from First run
marked-from [] = refl
marked-from (first ∷ []) = refl
marked-from (first ∷ second ∷ run) = ap (λ ms. mark false first ∷ mark true second ∷ ms) (marks-later (takes_bugs first.text) run)

-- an `it` is unset only where there was no bug word yet
abbrev pub unset_given : Option Text → List Marked → Option ℕ
unset_given (Some bug) ms = None
unset_given None ms = unset_it ms

abbrev pub marks_of : Place → List Token → List Marked
marks_of place tokens = marks_from place (first_run tokens) ++ flat_map marked (later_runs tokens)

abbrev pub unset_rest : Place → Option Text → List Token → Option ℕ
unset_rest place last tokens = unset_given last (marks_of place tokens)

abbrev pub if_ended : Bool → State → State
if_ended ends s = if ends then ended s else s

abbrev pub end_token : Bool → List Token
end_token ends = if ends then separator ∷ [] else []

at_end : (last : Option Text) (tokens : List Token) → unset_rest First last tokens ≡ unset_given last (flat_map marked (first_run tokens ∷ later_runs tokens))
at_end last tokens =
    ap (λ ms. unset_given last (ms ++ flat_map marked (later_runs tokens))) (sym (marked-from (first_run tokens)))

unset-ended : (ls : List Text) (line : Text) (place : Place) (last : Option Text) (tokens : List Token) →
    let s : State = record { lines = ls; line = line; place = place; last = last } in
    unset_rest (ended s).place (ended s).last tokens ≡ unset_rest place last (separator ∷ tokens)
unset-ended ls line First last tokens = at_end last tokens
unset-ended ls line (Second bugs) last tokens = at_end last tokens
unset-ended ls line (Later bugs) last tokens = at_end last tokens

unset-if_ended : (ends : Bool) (s : State) (tokens : List Token) →
    unset_rest (if_ended ends s).place (if_ended ends s).last tokens ≡ unset_rest s.place s.last (end_token ends ++ tokens)
unset-if_ended false s tokens = refl
unset-if_ended true s tokens = unset-ended s.lines s.line s.place s.last tokens

has_bug : (known : Bool) (word bug : Text) (ms : List Marked) → unset_given (if known then Some word else Some bug) ms ≡ None
has_bug true word bug ms = refl
has_bug false word bug ms = refl

abbrev pub unset_step : Option Text → Bool → Bool → ℕ → List Marked → Option ℕ
unset_step (Some bug) it known place ms = None
unset_step None it known place ms = if it then Some place else (if known then None else unset_it ms)

unset-step : (last : Option Text) (at_bug : Bool) (word : Word) (ms : List Marked) →
    unset_given last (mark at_bug word ∷ ms) ≡ unset_step last (at_bug && is_it word.text) (at_bug && is_bug_word word.text) word.place ms
unset-step None at_bug word ms = refl
unset-step (Some bug) at_bug word ms = refl

-- One word: whether it is an `it` at a bug place, and whether it is a bug word there.
unset-said : (it known : Bool) (last : Option Text) (s : State) (word : Text) (place : ℕ) (ends : Bool) (ms : List Marked) (go_on : State → Option ℕ)
    → ((written : Text) → go_on (if_ended ends (with_word s word written)) ≡ unset_given (if known then Some word else last) ms)
    → unread_else place (then_ended ends (with_meant s word (if it then last else Some word))) go_on ≡ unset_step last it known place ms
unset-said true known None s word place ends ms go_on h = refl
unset-said true known (Some bug) s word place ends ms go_on h = h bug ∙ has_bug known word bug ms
unset-said false known (Some bug) s word place ends ms go_on h = h word ∙ has_bug known word bug ms
unset-said false true None s word place ends ms go_on h = h word
unset-said false false None s word place ends ms go_on h = h word

marks-said : (at_bug : Place) (place : ℕ) (c : ℕ) (text : Text) (ends : Bool) (tokens : List Token) →
    marks_of at_bug ((said_at place (c ∷ text) ++ end_token ends) ++ tokens)
    ≡ mark (stands_for_bug at_bug) (record { place = place; text = c ∷ text }) ∷ marks_of (place_after at_bug (c ∷ text)) (end_token ends ++ tokens)
marks-said at_bug place c text true tokens = refl
marks-said at_bug place c text false tokens = refl

unset-text : (place : ℕ) (s : State) (text : Text) (ends : Bool) (tokens : List Token) (go_on : State → Option ℕ)
    → ((t : State) → go_on t ≡ unset_rest t.place t.last tokens)
    → unread_else place (then_ended ends (text_taken s text)) go_on
    ≡ unset_rest s.place s.last ((said_at place text ++ end_token ends) ++ tokens)
unset-text place s [] ends tokens go_on h = h (if_ended ends s) ∙ unset-if_ended ends s tokens
unset-text place s (c ∷ text) ends tokens go_on h =
    let b = stands_for_bug s.place in
    let word : Word = record { place = place; text = c ∷ text } in
    let ms = marks_of (place_after s.place (c ∷ text)) (end_token ends ++ tokens) in
    unset-said (b && is_it (c ∷ text)) (b && is_bug_word (c ∷ text)) s.last s (c ∷ text) place ends ms go_on
    (λ written. h (if_ended ends (with_word s (c ∷ text) written)) ∙ unset-if_ended ends (with_word s (c ∷ text) written) tokens)
    ∙ sym (unset-step s.last b word ms)
    ∙ ap (unset_given s.last) (sym (marks-said s.place place c text ends tokens))

unread-rest : (place : ℕ) (s : State) (words : List Text) → unread place s words ≡ unset_rest s.place s.last (tokens_from place words)
unread-rest place s [] = unread-none s.last
  where
    unread-none : (last : Option Text) → None ≡ unset_given last []
    unread-none None = refl
    unread-none (Some bug) = refl
unread-rest place s (word ∷ words) =
    unset-text place s (text_of word) (ends_command word) (tokens_from (place + 1) words)
    (λ t. unread (place + 1) t words) (λ t. unread-rest (place + 1) t words)

-- what the runs without the empty ones mark is what all runs mark
marks-filter : (runs : List (List Word)) → flat_map marked (filter has_words runs) ≡ flat_map marked runs
marks-filter [] = refl
marks-filter ([] ∷ runs) = marks-filter runs
marks-filter ((word ∷ run) ∷ runs) = ap (λ ms. marked (word ∷ run) ++ ms) (marks-filter runs)

pub unread-unset : (words : List Text) → unread 0 start words ≡ unset words
unread-unset words =
    let tokens = tokens_from 0 words in
    unread-rest 0 start words ∙ at_end None tokens ∙ ap unset_it (sym (marks-filter (first_run tokens ∷ later_runs tokens)))
