-- What is kept of messages stays right with an outcome more.
use Rattle.std.proofs.Common.{◌≡◌, ◌+◌, ◌-◌, ℕ, zero, suc, Bool, true, false, List, [], ◌∷◌, ◌++◌, length, take, Option, Some, None, zip}
use Rattle.std.proofs.Common.{refl, sym, ap, ◌∙◌, subst, arith, append_assoc, append-nil}
use Rattle.std.proofs.lemmas.Bool.{false≢true}
use Rattle.std.proofs.lemmas.List.{length-append, length-map}
use Rattle.std.proofs.lemmas.Option.{slice_get_within}
use Rattle.std.proofs.Math.Seq.{take-append_seam}
use Rattle.std.specs.Prelude.{Result, Ok, Err, slice_get, if◌then◌else◌}
use Rattle.std.specs.Result.{is_ok}
use Rattle.std.specs.Cmp.Lexicographic.{bytes_decides}
use Rattle.std.specs.Str.{bytes_eq}
use Rattle.bug_record.specs.Bugs.{with_new_bugs, at_bug, unless, first_of}
use Rattle.bug_record.specs.Changed.{changed_numbers}
use Rattle.bug_record.specs.Clones.{clone_of, merged_refusal, full_refusal, name_refusal, cloned}
use Rattle.bug_record.specs.Commands.{names_in}
use Rattle.bug_record.specs.Desk.{Desk, IsSound}
use Rattle.bug_record.specs.Sets.{Each, numbers_below}
use Rattle.bug_record.specs.Steps.{step}
use Rattle.base_words.specs.Texts.{IsText}
use Rattle.bug_record.specs.Words.{Names, meaning, words_refusal, number_by}
use Rattle.bug_record.specs.declared.bug.Bug.{Bug}
use Rattle.bug_record.specs.declared.command.Command.{Command}
use Rattle.bug_record.specs.declared.command.Command.TheVariants as commands
use Rattle.bug_record.specs.declared.command.Refusal.{Refusal}
use Rattle.control_grammar.specs.Lines.{reading}
use Rattle.control_grammar.specs.declared.line.Line.{Line}
use Rattle.control_grammar.specs.declared.line.Line.TheVariants.{Blank, Comment, Stop, Do}
use Rattle.control_lines.specs.Lines.{lines_of}
use Rattle.bug_record.specs.declared.outcome.Outcome.{Outcome}
use Rattle.base_words.specs.Ids.{IsId}
use Rattle.base_words.specs.declared.named.Named.{Named}
use Rattle.store_contract.specs.Message.{Entry, Machine, machine, takes, does, outcome_of, end_of, names_given, known_names}
use Rattle.store_contract.specs.Kept.{Keeping, none_kept, IsGoodOutcome, GiveNames, IsGoodKept, AreGoodKept, IsOfMessage, IsNextOutcome}
use Rattle.store_contract.specs.Kept.{lines_told, told, new_names, names_by, copies_of, copies_by, new_copies, outcomes_kept, kept_with, kept_also}
use Rattle.store_contract.specs.declared.kept.Kept.{Kept}
use Rattle.store_contract.proofs.NameLemmas.{passed, copies}

-- the numbers below n are n numbers
length-numbers_below : (n : ℕ) → length (numbers_below n) ≡ n
unfolding numbers_below
length-numbers_below zero = refl
length-numbers_below (suc n) = length-append (numbers_below n) (n ∷ []) ∙ ap (λ k. k + 1) (length-numbers_below n) ∙ omega arith

-- ---- what an accepted command gives

-- nothing is refused
no_refusal : (o : Option Refusal) (r : Result Desk Refusal) (new : Desk) → unless o r ≡ Ok new → o ≡ None
no_refusal None r new e = refl
no_refusal (Some refusal) r new e = absurd (false≢true (ap is_ok e))

second_of : (a b c : Option Refusal) → first_of (a ∷ b ∷ c ∷ []) ≡ None → b ≡ None
second_of None None c e = refl
second_of None (Some y) c e = absurd (cc)
second_of (Some x) b c e = absurd (cc)

-- the names of an accepted `clone` could be given
free_names : (names : Names) (d : Desk) (n : ℕ) (ks : List ℕ) (o : Option Bug) (new : Desk)
    → at_bug o n (λ b. unless (first_of (merged_refusal n b.merged ∷ name_refusal names ks ∷ full_refusal d.next (length ks) ∷ []))
    (Ok (with_new_bugs d (clone_of b) (length ks)))) ≡ Ok new
    → name_refusal names ks ≡ None
free_names names d n ks None new e = absurd (false≢true (ap is_ok e))
free_names names d n ks (Some b) new e =
    second_of (merged_refusal n b.merged) (name_refusal names ks) (full_refusal d.next (length ks))
    (no_refusal (first_of (merged_refusal n b.merged ∷ name_refusal names ks ∷ full_refusal d.next (length ks) ∷ []))
    (Ok (with_new_bugs d (clone_of b) (length ks))) new e)

-- The names of a command can be given, each with its number.
abbrev Gives : Names → Command Named → List ℕ → Type 0
Gives names command numbers =
    (name_refusal names (names_in command) ≡ None) × (length (copies_of command numbers) ≡ length (names_in command))

clone-gives : (names : Names) (d : Desk) (sender : List ℕ) (n : Named) (ks : List ℕ) (new : Desk) → IsSound d
    → step names d sender (commands.Clone n ks) ≡ Ok new → Gives names (commands.Clone n ks) (changed_numbers d new)
clone-gives names d sender n ks new sound e =
    let m = number_by (meaning names) n in
    let done = passed (words_refusal (meaning names) d.bug (commands.Clone n ks)) (cloned (name_refusal names) d m ks) new e in
    let numbers = copies d
    (λ b. first_of (merged_refusal m b.merged ∷ name_refusal names ks ∷ full_refusal d.next (length ks) ∷ []))
    (length ks) m (d.bug m) new sound done in
    let many : length (changed_numbers d new) ≡ length ks =
    ap length numbers ∙ length-map (numbers_below (length ks)) (λ k. d.next + k) ∙ length-numbers_below (length ks) in
    (free_names names d m ks (d.bug m) new done, many)

command-gives : (names : Names) (d : Desk) (sender : List ℕ) (command : Command Named) (new : Desk) → IsSound d
    → step names d sender command ≡ Ok new → Gives names command (changed_numbers d new)
command-gives names d sender (commands.Clone n ks) new sound e = clone-gives names d sender n ks new sound e
command-gives names d sender command new sound e = (refl, refl)

-- ---- what the next line gives

-- the names of a line with this outcome can be given, each with its number
abbrev LineGives : Names → Result Line Refusal → Outcome → Type 0
LineGives names read outcome = (name_refusal names (names_by read outcome) ≡ None) × (length (copies_by read outcome) ≡ length (names_by read outcome))

does-gives : (names : Names) (d : Desk) (sender : List ℕ) (command : Command Named) (r : Result Desk Refusal) → IsSound d
    → step names d sender command ≡ r → LineGives names (Ok (Do command)) (outcome_of d r).0
does-gives names d sender command (Ok new) sound e = command-gives names d sender command new sound e
does-gives names d sender command (Err refusal) sound e = (refl, refl)

same_last : (entries : List Entry) (x y : Entry) → entries ++ x ∷ [] ≡ entries ++ y ∷ [] → x ≡ y
same_last [] x y e = cc
same_last (a ∷ entries) x y e = same_last entries x y (cc)

line-gives : (sender line : List ℕ) (d new : Desk) (entries : List Entry) (outcome : Outcome) → IsSound d
    → (read : Result Line Refusal)
    → takes sender (machine d entries) line read ≡ machine new (entries ++ (line, outcome) ∷ [])
    → LineGives (known_names entries) read outcome
unfolding does
line-gives sender line d new entries outcome sound (Ok Blank) e = (refl, refl)
line-gives sender line d new entries outcome sound (Ok Comment) e = (refl, refl)
line-gives sender line d new entries outcome sound (Ok Stop) e = (refl, refl)
line-gives sender line d new entries outcome sound (Err refusal) e = (refl, refl)
line-gives sender line d new entries outcome sound (Ok (Do command)) e =
    let names = known_names entries in
    let done = outcome_of d (step names d sender command) in
    let same = same_last entries (line, done.0) (line, outcome) (ap (λ (m : Machine). m.outcomes) e) in
    subst (λ (o : Outcome). LineGives names (Ok (Do command)) o) (ap (λ (entry : Entry). entry.1) same)
    (does-gives names d sender command (step names d sender command) sound refl)

-- ---- one entry more

GiveNames-push : (names : Names) (entries : List Entry) (entry : Entry) → GiveNames names entries
    → name_refusal (names ++ known_names entries) (new_names entry) ≡ None
    → length (new_copies entry) ≡ length (new_names entry)
    → GiveNames names (entries ++ entry ∷ [])
GiveNames-push names [] entry g free many =
    (subst (λ (ns : Names). name_refusal ns (new_names entry) ≡ None) (append-nil names) free, many, tt)
GiveNames-push names (a ∷ entries) entry g free many = (
  g.0,
  g.1,
  GiveNames-push (names ++ names_given a) entries entry g.2
      (subst (λ (ns : Names). name_refusal ns (new_names entry) ≡ None) (sym (append_assoc names (names_given a) (known_names entries))) free)
      many,
)

zip-nil : {X Y : Type 0} (xs : List X) → zip {K = X} {X = Y} xs [] ≡ []
zip-nil [] = refl
zip-nil (x ∷ xs) = refl

zip-push : {X Y : Type 0} (xs : List X) (ys : List Y) (x : X) (y : Y) → slice_get xs (length ys) ≡ Some x
    → zip xs (ys ++ y ∷ []) ≡ zip xs ys ++ (x, y) ∷ []
zip-push [] [] x y e = absurd (cc)
zip-push [] (z ∷ ys) x y e = absurd (cc)
zip-push (w ∷ xs) [] x y e = let h : w ≡ x = cc in ap (λ v. (v, y) ∷ zip xs []) h ∙ ap (λ l. (x, y) ∷ l) (zip-nil xs)
zip-push (w ∷ xs) (z ∷ ys) x y e = ap (λ l. (w, z) ∷ l) (zip-push xs ys x y e)

Each-push : {T : Type 0} (P : T → Type 0) (xs : List T) (x : T) → Each P xs → P x → Each P (xs ++ x ∷ [])
Each-push P [] x e p = (p, tt)
Each-push P (y ∷ xs) x e p = (e.0, Each-push P xs x e.1 p)

-- ---- what is kept of the message

-- what is right of the outcomes that are kept of a message
record AreGood (message : List ℕ) (outcomes : List Outcome) : Type 0 where
  names : GiveNames [] (told (lines_of message) outcomes)
  each : Each IsGoodOutcome outcomes

kept-good : (id sender message : List ℕ) (o : Option Kept) → ((k : Kept) → o ≡ Some k → IsId id × IsGoodKept k) → IsOfMessage sender message o
    → AreGood message (outcomes_kept o)
kept-good id sender message None good same = record {
  names = subst (GiveNames []) (sym (zip-nil (lines_told (lines_of message)))) tt;
  each = tt;
}
kept-good id sender message (Some k) good same = record {
  names = subst (λ (text : List ℕ). GiveNames [] (told (lines_of text) k.outcomes)) same.1 (good k refl).1.names;
  each = (good k refl).1.outcomes;
}

push-not_nil : {T : Type 0} (xs : List T) (x : T) → xs ++ x ∷ [] ≡ [] → ⊥
push-not_nil [] x e = cc
push-not_nil (y ∷ xs) x e = cc

-- a list without its last element
pub but_last : {T : Type 0} (xs : List T) (x : T) → take (length (xs ++ x ∷ []) - 1) (xs ++ x ∷ []) ≡ xs
but_last xs x =
    let many : length (xs ++ x ∷ []) - 1 ≡ length xs = omega (arith, length-append xs (x ∷ [])) in
    ap (λ n. take n (xs ++ x ∷ [])) many ∙ take-append_seam xs (x ∷ [])

abbrev pub kept_now : List ℕ → List ℕ → List Outcome → Kept
kept_now sender message outcomes = record { from = sender; message = message; outcomes = outcomes }

next-good : (id sender message : List ℕ) (kept : Keeping) (d : Desk) (outcome : Outcome) (new : Desk)
    → IsNextOutcome id sender message kept d outcome new → IsSound d → IsText sender → IsGoodOutcome outcome → AreGoodKept kept
    → IsGoodKept (kept_now sender message (outcomes_kept (kept id) ++ outcome ∷ []))
next-good id sender message kept d outcome new next sound text fine good =
    let os = outcomes_kept (kept id) in
    let lines = lines_of message in
    let old = kept-good id sender message (kept id) (good id) next.same in
    let gives = line-gives sender next.line d new (told lines os) outcome sound (reading next.line) next.takes in
    let entries : told lines (os ++ outcome ∷ []) ≡ told lines os ++ (next.line, outcome) ∷ [] =
    zip-push (lines_told lines) os next.line outcome next.is_next in
    let before : take (length (os ++ outcome ∷ []) - 1) (os ++ outcome ∷ []) ≡ os = but_last os outcome in
    record {
      sender = text;
      some = push-not_nil os outcome;
      few = omega (arith, length-append os (outcome ∷ []), slice_get_within (lines_told lines) (length os) next.line next.is_next);
      goes_on = ap (λ (l : List Outcome). end_of (told lines l)) before ∙ next.goes_on;
      names = subst (GiveNames []) (sym entries)
          (GiveNames-push [] (told lines os) (next.line, outcome) old.names gives.0 gives.1);
      outcomes = Each-push IsGoodOutcome os outcome old.each fine;
    }

-- ---- what is kept of all messages

-- that of the id, and of the others what was kept of them
abbrev pub put_kept : List ℕ → Kept → Keeping → Keeping
put_kept id k kept = λ other. if bytes_eq id other then Some k else kept other

pub kept_with-push : (id sender message : List ℕ) (outcomes : List Outcome) (outcome : Outcome) (kept : Keeping)
    → kept_with id sender message (outcomes ++ outcome ∷ []) kept ≡ put_kept id (kept_now sender message (outcomes ++ outcome ∷ [])) kept
kept_with-push id sender message [] outcome kept = refl
kept_with-push id sender message (o ∷ outcomes) outcome kept = refl

put-good : (id other : List ℕ) (b : Bool) (k : Kept) (o : Option Kept) → bytes_eq id other ≡ b → IsId id → IsGoodKept k
    → ((j : Kept) → o ≡ Some j → IsId other × IsGoodKept j) → (j : Kept) → (if b then Some k else o) ≡ Some j
    → IsId other × IsGoodKept j
put-good id other true k o is named fine good j e =
    let h : k ≡ j = cc in (subst IsId ((bytes_decides id other).0 is) named, subst IsGoodKept h fine)
put-good id other false k o is named fine good j e = good j e

-- What is kept stays right with the next outcome.
pub kept_also-good : (id sender message : List ℕ) (kept : Keeping) (d : Desk) (outcome : Outcome) (new : Desk)
    → IsNextOutcome id sender message kept d outcome new → IsSound d → IsText sender → IsGoodOutcome outcome → AreGoodKept kept
    → AreGoodKept (kept_also id sender message outcome kept)
kept_also-good id sender message kept d outcome new next sound text fine good =
    subst AreGoodKept (sym (kept_with-push id sender message (outcomes_kept (kept id)) outcome kept))
    (λ other j e. put-good id other (bytes_eq id other) (kept_now sender message (outcomes_kept (kept id) ++ outcome ∷ [])) (kept other) refl next.is_id
    (next-good id sender message kept d outcome new next sound text fine good) (good other) j e)

pub none-good : AreGoodKept none_kept
none-good id k e = absurd (cc)
