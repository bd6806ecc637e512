-- Kept outcomes that can be those of a message are recalled.
use Rattle.std.proofs.Common.{◌≡◌, ◌≤◌, ◌<◌, ◌+◌, ◌-◌, ℕ, true, false, List, [], ◌∷◌, ◌++◌, Some, None, Result, Ok, Err}
use Rattle.std.proofs.Common.{refl, sym, ap, subst, ◌∙◌, arith, take, drop, length, get_or, append_assoc, length-append}
use Rattle.std.specs.Prelude.{if◌then◌else◌, nat_le, zip, slice_get}
use Rattle.std.proofs.lemmas.Bool.{or_parts}
use Rattle.std.proofs.lemmas.Bool.Decides.{nat_tests}
use Rattle.std.proofs.lemmas.List.{append-nil, length-take-le, take_all}
use Rattle.std.proofs.lemmas.List.Folds.{list_any-append}
use Rattle.std.proofs.lemmas.List.Sums.{sum_by-append}
use Rattle.std.proofs.lemmas.Option.{slice_get_within, same_Some}
use Rattle.bug_record.specs.Clones.{name_refusal}
use Rattle.bug_record.specs.Words.{Names}
use Rattle.bug_record.specs.declared.command.Refusal.{Refusal}
use Rattle.control_grammar.specs.Lines.{reading}
use Rattle.control_grammar.specs.declared.line.Line.{Line}
use Rattle.control_grammar.specs.declared.line.Line.TheVariants.{Blank, Comment, Stop, Do}
use Rattle.bug_record.specs.declared.outcome.Outcome.{Outcome}
use Rattle.bug_record.specs.declared.outcome.Outcome.TheVariants.{Changed, Refused, Stopped}
use Rattle.base_faults.specs.declared.store_fault.End.{End}
use Rattle.base_faults.specs.declared.store_fault.End.TheVariants as ends
use Rattle.store_contract.specs.Message.{Entry, is_stop, is_unreadable, unreadable_count, end_of, names_of, names_with, names_given, known_names}
use Rattle.store_contract.specs.Kept.{has_outcome, reads_as_command, lines_told, told, names_by, new_names, GiveNames}
use Rattle.store_contract.proofs.EndLemmas.{stops, open_tests, end_is}
use Rattle.store_contract.specs.Progress.{goes_on, IsInStep, IsReady}
use Rattle.store_contract.proofs.GivenLemmas.{known-push}
use Rattle.message_recall.specs.NamesRead.{names_read, names_accepted}
use Rattle.message_recall.specs.Recalling.{AreOfLines, IsTaken}
use Rattle.message_recall.proofs.ToldLemmas.{zip-append, zip-take, zip-push, zip-length, line-told, line-untold, one_told, lines-split, lines-more, told-more}

-- ---- the end of a message

pub open-prefix : (es more : List Entry) → end_of (es ++ more) ≡ ends.All → end_of es ≡ ends.All
open-prefix es more h =
    let tests = open_tests (es ++ more) h in
    let none : stops es ≡ false = (or_parts (stops es) (stops more) (sym (list_any-append (λ (e : Entry). is_stop e.1) es more) ∙ tests.0)).0 in
    let sum : unreadable_count (es ++ more) ≡ unreadable_count es + unreadable_count more =
    sum_by-append (λ (e : Entry). if is_unreadable e.1 then 1 else 0) es more in
    let many : nat_le 5 (unreadable_count (es ++ more)) ≡ false = tests.1 in
    let few : nat_le 5 (unreadable_count es) ≡ false = grind (arith, nat_tests) in
    end_is false false es none few

-- ---- names

pub give-at : (names : Names) (es more : List Entry) (e : Entry) → GiveNames names (es ++ e ∷ more)
    → name_refusal (names ++ known_names es) (new_names e) ≡ None
give-at names [] more e g = subst (λ (ks : Names). name_refusal ks (new_names e) ≡ None) (sym (append-nil names)) g.0
give-at names (x ∷ es) more e g =
    subst (λ (ks : Names). name_refusal ks (new_names e) ≡ None) (append_assoc names (names_given x) (known_names es))
    (give-at (names ++ names_given x) es more e g.2)

-- ---- what can't be

-- an outcome that is kept after the end
pub not_ended : (lines : List (List ℕ)) (kept : List Outcome) (i : ℕ) → AreOfLines lines kept
    → length (lines_told (take i lines)) < length kept → end_of (told (take i lines) kept) ≡ ends.All
not_ended lines kept i are lt =
    let n = length kept - 1 in
    let most : length (lines_told (take i lines)) ≤ length kept - 1 = omega arith in
    let within : length (lines_told (take i lines)) ≤ length (take (length kept - 1) kept) =
    omega (arith, most, length-take-le (length kept - 1) kept (omega arith)) in
    let more = zip (lines_told (drop i lines)) (drop (length (lines_told (take i lines))) (take n kept)) in
    let split : told lines (take n kept) ≡ told (take i lines) kept ++ more =
    ap (λ (w : List (List ℕ)). zip w (take n kept)) (lines-split lines i)
    ∙ (zip-append (lines_told (take i lines)) (lines_told (drop i lines)) (take n kept) within
    ∙ ap (λ (w : List Entry). w ++ more) (zip-take (lines_told (take i lines)) kept n most)) in
    open-prefix (told (take i lines) kept) more (ap end_of (sym split) ∙ are.goes_on)

-- names that can't be given
pub not_taken : (lines : List (List ℕ)) (kept : List Outcome) (i : ℕ) (line : List ℕ) (outcome : Outcome) → AreOfLines lines kept
    → i < length lines → line ≡ get_or lines i line → has_outcome line ≡ true
    → slice_get kept (length (lines_told (take i lines))) ≡ Some outcome
    → name_refusal (known_names (told (take i lines) kept)) (new_names (line, outcome)) ≡ None
not_taken lines kept i line outcome are lt is there at =
    let xs = lines_told (take i lines) in
    let rest = lines_told (drop (i + 1) lines) in
    let room : length (lines_told (take i lines)) < length kept = slice_get_within kept (length (lines_told (take i lines))) outcome at in
    let within : length (lines_told (take i lines) ++ line ∷ []) ≤ length kept =
    omega (arith, room, length-append (lines_told (take i lines)) (line ∷ [])) in
    let more = zip rest (drop (length (xs ++ line ∷ [])) kept) in
    let split : told lines kept ≡ told (take i lines) kept ++ (line, outcome) ∷ more =
    ap (λ (w : List (List ℕ)). zip w kept)
    (lines-split lines (i + 1)
    ∙ ap (λ (w : List (List ℕ)). w ++ rest)
    (lines-more lines i line lt is ∙ ap (λ (w : List (List ℕ)). xs ++ w) (line-told line there)))
    ∙ (zip-append (xs ++ line ∷ []) rest kept within
    ∙ (ap (λ (w : List Entry). w ++ more) (zip-push xs kept line outcome at)
    ∙ append_assoc (zip xs kept) ((line, outcome) ∷ []) more)) in
    give-at [] (told (take i lines) kept) more (line, outcome) (subst (GiveNames []) split are.names)

-- ---- the names of a line

no-names : (outcome : Outcome) → names_of [] outcome ≡ []
no-names (Changed numbers) = refl
no-names (Refused refusal) = refl
no-names Stopped = refl

given-read : (r : Result Line Refusal) (names : List ℕ) (outcome : Outcome) → Some names ≡ names_read r
    → names_with r outcome ≡ names_of names outcome
given-read (Ok Blank) names outcome e = absurd (cc)
given-read (Ok Comment) names outcome e = absurd (cc)
given-read (Ok Stop) names outcome e = sym (ap (λ ks. names_of ks outcome) (same_Some _ _ e) ∙ no-names outcome)
given-read (Ok (Do command)) names outcome e = ap (λ ks. names_of ks outcome) (sym (same_Some _ _ e))
given-read (Err refusal) names outcome e = sym (ap (λ ks. names_of ks outcome) (same_Some _ _ e) ∙ no-names outcome)

accepted-read : (r : Result Line Refusal) (names : List ℕ) (outcome : Outcome) → Some names ≡ names_read r
    → names_by r outcome ≡ names_accepted names outcome
accepted-read (Ok Blank) names outcome e = absurd (cc)
accepted-read (Ok Comment) names outcome e = absurd (cc)
accepted-read (Ok Stop) names (Changed numbers) e = sym (same_Some _ _ e)
accepted-read (Ok Stop) names (Refused refusal) e = refl
accepted-read (Ok Stop) names Stopped e = refl
accepted-read (Ok (Do command)) names (Changed numbers) e = sym (same_Some _ _ e)
accepted-read (Ok (Do command)) names (Refused refusal) e = refl
accepted-read (Ok (Do command)) names Stopped e = refl
accepted-read (Err refusal) names (Changed numbers) e = sym (same_Some _ _ e)
accepted-read (Err refusal) names (Refused other) e = refl
accepted-read (Err refusal) names Stopped e = refl

told-read : (r : Result Line Refusal) (names : List ℕ) → Some names ≡ names_read r → reads_as_command r ≡ true
told-read (Ok Blank) names e = absurd (cc)
told-read (Ok Comment) names e = absurd (cc)
told-read (Ok Stop) names e = refl
told-read (Ok (Do command)) names e = refl
told-read (Err refusal) names e = refl

untold-read : (r : Result Line Refusal) → None ≡ names_read r → reads_as_command r ≡ false
untold-read (Ok Blank) e = refl
untold-read (Ok Comment) e = refl
untold-read (Ok Stop) e = absurd (cc)
untold-read (Ok (Do command)) e = absurd (cc)
untold-read (Err refusal) e = absurd (cc)

pub line-has : (line names : List ℕ) → Some names ≡ names_read (reading line) → has_outcome line ≡ true
line-has line names e = told-read (reading line) names e

-- a recalled outcome is ready to be added
pub ready-recalled : (es room : List Entry) (count : ℕ) (known later : Names) (line names : List ℕ) (outcome : Outcome) (entry : Entry)
    → IsInStep es count known → room ≡ es → entry ≡ (line, outcome) → Some names ≡ names_read (reading line)
    → later ≡ known ++ names_of names entry.1 → IsReady room count later entry
ready-recalled es room count known later line names outcome entry s r e names_are named = record {
  counted = s.counted ∙ ap unreadable_count (sym r);
  known_are = named
      ∙ ((λ i. s.known_are i ++ sym (given-read (reading line) names entry.1 names_are) i)
      ∙ (ap (λ (l : List ℕ). known_names es ++ names_with (reading l) entry.1) (sym (ap (λ (x : Entry). x.0) e))
      ∙ (sym (known-push es entry) ∙ ap (λ (w : List Entry). known_names (w ++ entry ∷ [])) (sym r))));
  goes_on = ap end_of r ∙ s.goes_on;
}

-- what is recalled of a line
pub recalled-some : (es room after : List Entry) (line names : List ℕ) (outcome : Outcome) (entry : Entry) → room ≡ es
    → entry ≡ (line, outcome) → Some names ≡ names_read (reading line) → after ≡ room ++ entry ∷ []
    → after ≡ es ++ told (line ∷ []) (outcome ∷ [])
recalled-some es room after line names outcome entry r e names_are pushed =
    pushed ∙ ((λ i. r i ++ e i ∷ [])
    ∙ ap (λ (w : List (List ℕ)). es ++ zip w (outcome ∷ [])) (sym (line-told line (line-has line names names_are))))

pub recalled-none : (es after : List Entry) (line : List ℕ) (outcome : Outcome) → None ≡ names_read (reading line) → after ≡ es
    → after ≡ es ++ told (line ∷ []) (outcome ∷ [])
recalled-none es after line outcome none r =
    r ∙ (sym (append-nil es)
    ∙ ap (λ (w : List (List ℕ)). es ++ zip w (outcome ∷ [])) (sym (line-untold line (untold-read (reading line) none))))

pub refused-names : (es : List Entry) (known : Names) (line names : List ℕ) (outcome : Outcome) (entry : Entry)
    → known ≡ known_names es → entry ≡ (line, outcome) → Some names ≡ names_read (reading line)
    → name_refusal (known_names es) (new_names (line, outcome)) ≡ None
    → name_refusal known (names_accepted names entry.1) ≡ None
refused-names es known line names outcome entry k e names_are h =
    (λ i. name_refusal (k i) (names_accepted names ((ap (λ (x : Entry). x.1) e) i)))
    ∙ (ap (name_refusal (known_names es)) (sym (accepted-read (reading line) names outcome names_are)) ∙ h)

-- ---- all lines

pub told-length : (lines : List (List ℕ)) (kept : List Outcome) (i : ℕ) (outcomes : List Entry) (n : ℕ)
    → length (lines_told (take i lines)) ≤ length kept → outcomes ≡ told (take i lines) kept → n ≡ length outcomes
    → n ≡ length (lines_told (take i lines))
told-length lines kept i outcomes n few is e = e ∙ (ap length is ∙ zip-length (lines_told (take i lines)) kept few)

pub recall-more : (lines : List (List ℕ)) (kept : List Outcome) (i : ℕ) (line : List ℕ) (outcome : Outcome) (before after : List Entry)
    → i < length lines → line ≡ get_or lines i line → slice_get kept (length (lines_told (take i lines))) ≡ Some outcome
    → before ≡ told (take i lines) kept → after ≡ before ++ told (line ∷ []) (outcome ∷ [])
    → after ≡ told (take (i + 1) lines) kept
recall-more lines kept i line outcome before after lt is at so_far pushed =
    pushed
    ∙ (ap (λ (w : List Entry). w ++ told (line ∷ []) (outcome ∷ [])) so_far
    ∙ (sym (told-more kept (lines_told (take i lines)) line outcome at)
    ∙ ap (λ (w : List (List ℕ)). zip w kept) (sym (lines-more lines i line lt is))))

pub few-more : (lines : List (List ℕ)) (kept : List Outcome) (i : ℕ) (line : List ℕ) (outcome : Outcome) → i < length lines
    → line ≡ get_or lines i line → slice_get kept (length (lines_told (take i lines))) ≡ Some outcome
    → length (lines_told (take (i + 1) lines)) ≤ length kept
few-more lines kept i line outcome lt is at =
    let room : length (lines_told (take i lines)) < length kept = slice_get_within kept (length (lines_told (take i lines))) outcome at in
    let one : length (lines_told (line ∷ [])) ≤ 1 = one_told line in
    let sum : length (lines_told (take (i + 1) lines)) ≡ length (lines_told (take i lines)) + length (lines_told (line ∷ [])) =
    ap length (lines-more lines i line lt is) ∙ length-append (lines_told (take i lines)) (lines_told (line ∷ [])) in
    omega (arith, room, one, sum)

pub taken-at : (lines : List (List ℕ)) (kept : List Outcome) (i n : ℕ) → i ≡ n → n ≤ length lines
    → length (lines_told (take i lines)) ≤ length kept → length kept ≤ length (lines_told (take i lines)) → IsTaken lines kept n
taken-at lines kept i n e le few many =
    subst (λ (j : ℕ). j ≤ length lines → IsTaken lines kept j) e (λ within. record { within = within; all = omega arith }) le

pub never-few : (lines : List (List ℕ)) (kept : List Outcome) (i n : ℕ) → AreOfLines lines kept → length lines ≤ i
    → n ≡ length (lines_told (take i lines)) → n < length kept → ⊥
never-few lines kept i n are end e lt =
    let few : length kept ≤ length (lines_told lines) = are.few in
    let same : length (lines_told (take i lines)) ≡ length (lines_told lines) = ap (λ w. length (lines_told w)) (take_all i lines end) in
    omega (arith, few, same, e, lt)

pub ends-not : (lines : List (List ℕ)) (kept : List Outcome) (i : ℕ) (outcomes : List Entry) (end : End) (outcome : Outcome)
    → AreOfLines lines kept → outcomes ≡ told (take i lines) kept → end_of outcomes ≡ end
    → slice_get kept (length (lines_told (take i lines))) ≡ Some outcome → goes_on end ≡ true
ends-not lines kept i outcomes end outcome are is e at =
    ap goes_on (sym e ∙ (ap end_of is
    ∙ not_ended lines kept i are (slice_get_within kept (length (lines_told (take i lines))) outcome at)))
