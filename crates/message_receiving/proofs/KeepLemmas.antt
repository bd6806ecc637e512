-- What is kept of an id, one outcome after another.
use Rattle.std.proofs.Common.{◌≡◌, ℕ, true, false, cond, List, [], ◌∷◌, ◌++◌, Option, Some, None, Result, Ok, Err, refl, sym, ap, subst, ◌∙◌, arith, length}
use Rattle.std.specs.Prelude.{zip, slice_get}
use Rattle.std.specs.Str.{bytes_eq}
use Rattle.std.proofs.lemmas.Option.{same_Some}
use Rattle.std.proofs.lemmas.Slice.Eq.{bytes_eq-Decides}
use Rattle.bug_record.proofs.PackageLemmas.{same_name}
use Rattle.bug_record.specs.Sets.{Each}
use Rattle.bug_record.specs.Commands.{names_in}
use Rattle.bug_record.specs.declared.command.Refusal.{Refusal}
use Rattle.control_grammar.specs.Lines.{reading}
use Rattle.control_grammar.specs.declared.line.Line.{Line}
use Rattle.control_grammar.specs.declared.line.Line.TheVariants.{Blank, Comment, Stop, Do}
use Rattle.control_lines.specs.Lines.{lines_of}
use Rattle.bug_record.specs.declared.outcome.Outcome.{Outcome}
use Rattle.store_contract.specs.Message.{Entry, end_of, names_with, names_given, known_names}
use Rattle.store_contract.specs.Kept.{Keeping, lines_told, told, outcomes_in, outcomes_kept, IsOfMessage, kept_with, kept_also}
use Rattle.store_contract.specs.Kept.{IsGoodKept, IsGoodOutcome, GiveNames}
use Rattle.store_contract.specs.declared.kept.Kept.{Kept}
use Rattle.store_contract.specs.Progress.{HaveNumbers}
use Rattle.store_contract.proofs.EndLemmas.{at_start_open}
use Rattle.store_contract.proofs.GivenLemmas.{append-each, given-numbers}
use Rattle.message_receiving.specs.GoingOn.{IsBegun, KeepsOn}
use Rattle.message_recall.specs.Recalling.{AreOfLines}
use Rattle.message_recall.proofs.ToldLemmas.{zip-none}
use Rattle.message_receiving.proofs.ToldLemmas.{zip-seconds}

-- ---- one id

same-id : (id : List ℕ) → bytes_eq id id ≡ true
same-id id = (bytes_eq-Decides id id).1 refl

-- where another id is asked for, nothing is new
kept-other : (id sender message : List ℕ) (xs : List Outcome) (k : Keeping) (other : List ℕ) → bytes_eq id other ≡ false
    → kept_with id sender message xs k other ≡ k other
kept-other id sender message [] k other e = refl
kept-other id sender message (x ∷ xs) k other e =
    ap (λ t. cond t (Some (record { from = sender; message = message; outcomes = x ∷ xs })) (k other)) e

-- an outcome more
kept-more : (id sender message : List ℕ) (xs : List Outcome) (o : Outcome) (k : Keeping) (other : List ℕ)
    → kept_with id sender message (xs ++ o ∷ []) k other
    ≡ cond (bytes_eq id other) (Some (record { from = sender; message = message; outcomes = xs ++ o ∷ [] })) (k other)
kept-more id sender message [] o k other = refl
kept-more id sender message (x ∷ xs) o k other = refl

kept-here : (id sender message : List ℕ) (xs : List Outcome) (o : Outcome) (k : Keeping)
    → kept_with id sender message (xs ++ o ∷ []) k id
    ≡ Some (record { from = sender; message = message; outcomes = xs ++ o ∷ [] })
kept-here id sender message xs o k =
    kept-more id sender message xs o k id
    ∙ ap (λ t. cond t (Some (record { from = sender; message = message; outcomes = xs ++ o ∷ [] })) (k id)) (same-id id)

-- then it is of the message
pub also-same : (id sender message : List ℕ) (o : Outcome) (k : Keeping)
    → IsOfMessage sender message (kept_also id sender message o k id)
also-same id sender message o k =
    subst (IsOfMessage sender message) (sym (kept-here id sender message (outcomes_kept (k id)) o k)) (refl, refl)

pub also-outcomes : (id sender message : List ℕ) (o : Outcome) (k : Keeping)
    → outcomes_kept (kept_also id sender message o k id) ≡ outcomes_kept (k id) ++ o ∷ []
also-outcomes id sender message o k = ap outcomes_kept (kept-here id sender message (outcomes_kept (k id)) o k)

-- ---- beside what was kept at first

keeps-at : (id sender message : List ℕ) (k first : Keeping) (xs : List Outcome) (o : Outcome) → outcomes_kept (k id) ≡ xs
    → k ≡ kept_with id sender message xs first → (other : List ℕ)
    → kept_also id sender message o k other ≡ kept_with id sender message (xs ++ o ∷ []) first other
keeps-at id sender message k first xs o are e other =
    kept-more id sender message (outcomes_kept (k id)) o k other
    ∙ (elim (bytes_eq id other) as (λ t. bytes_eq id other ≡ t
    → cond t (Some (record { from = sender; message = message; outcomes = outcomes_kept (k id) ++ o ∷ [] })) (k other)
    ≡ cond t (Some (record { from = sender; message = message; outcomes = xs ++ o ∷ [] })) (first other)) [
      | true ↦ λ _. ap (λ (w : List Outcome). Some (record { from = sender; message = message; outcomes = w ++ o ∷ [] })) are
      | false ↦ λ f. ap (λ (z : Keeping). z other) e ∙ kept-other id sender message xs first other f
    ] refl
    ∙ sym (kept-more id sender message xs o first other))

pub outcomes-push : (es : List Entry) (line : List ℕ) (o : Outcome) → outcomes_in (es ++ (line, o) ∷ []) ≡ outcomes_in es ++ o ∷ []
outcomes-push [] line o = refl
outcomes-push (e ∷ es) line o = ap (λ w. e.1 ∷ w) (outcomes-push es line o)

pub keeps-also : (id sender message : List ℕ) (k now : Keeping) (before after : List Entry) (line : List ℕ) (o : Outcome)
    → outcomes_kept (k id) ≡ outcomes_in before → now ≡ kept_also id sender message o k → after ≡ before ++ (line, o) ∷ []
    → KeepsOn id sender message k before now after
keeps-also id sender message k now before after line o are is pushed = λ first e.
    is ∙ ((λ i other. keeps-at id sender message k first (outcomes_in before) o are e other i)
    ∙ ap (λ (w : List Outcome). kept_with id sender message w first) (sym (ap outcomes_in pushed ∙ outcomes-push before line o)))

-- what is kept of the id at first
own-at : (id sender message : List ℕ) (k : Keeping) (o : Option Kept) → k id ≡ o → IsOfMessage sender message o → (other : List ℕ)
    → k other ≡ kept_with id sender message (outcomes_kept o) k other
own-at id sender message k None e same other = refl
own-at id sender message k (Some kk) e same other =
    elim kk.outcomes as (λ (w : List Outcome). kk.outcomes ≡ w → k other ≡ kept_with id sender message w k other) [
      | [] ↦ λ _. refl
      | x ∷ xs ↦ λ q. elim (bytes_eq id other) as (λ t. bytes_eq id other ≡ t
          → k other ≡ cond t (Some (record { from = sender; message = message; outcomes = x ∷ xs })) (k other)) [
            | true ↦ λ b.
                ap k (sym (same_name id other b))
                ∙ (e ∙ (λ i. Some (record { from = same.0 i; message = same.1 i; outcomes = q i })))
            | false ↦ λ b. refl
          ] refl
    ] refl

pub kept-own : (id sender message : List ℕ) (k : Keeping) → IsOfMessage sender message (k id)
    → k ≡ kept_with id sender message (outcomes_kept (k id)) k
kept-own id sender message k same = λ i other. own-at id sender message k (k id) refl same other i

-- ---- kept outcomes that are right

of_none : (lines : List (List ℕ)) → AreOfLines lines []
of_none lines = record {
  few = omega arith;
  goes_on = ap end_of (zip-none (lines_told lines)) ∙ at_start_open;
  names = subst (GiveNames []) (sym (zip-none {B = Outcome} (lines_told lines))) tt;
}

pub of_lines : (sender message : List ℕ) (o : Option Kept) → IsOfMessage sender message o
    → ((kk : Kept) → o ≡ Some kk → IsGoodKept kk) → AreOfLines (lines_of message) (outcomes_kept o)
of_lines sender message None same good = of_none (lines_of message)
of_lines sender message (Some kk) same good =
    let g = good kk refl in
    subst (λ (m : List ℕ). AreOfLines (lines_of m) kk.outcomes) same.1
    (record { few = g.few; goes_on = g.goes_on; names = g.names })

outcomes-good : (o : Option Kept) → ((kk : Kept) → o ≡ Some kk → IsGoodKept kk) → Each IsGoodOutcome (outcomes_kept o)
outcomes-good None good = tt
outcomes-good (Some kk) good = (good kk refl).outcomes

read-numbers : (r : Result Line Refusal) (o : Outcome) → IsGoodOutcome o → HaveNumbers (names_with r o)
read-numbers (Ok Blank) o g = tt
read-numbers (Ok Comment) o g = tt
read-numbers (Ok Stop) o g = tt
read-numbers (Ok (Do command)) o g = given-numbers (names_in command) o g
read-numbers (Err refusal) o g = tt

numbers-told : (ls : List (List ℕ)) (os : List Outcome) → Each IsGoodOutcome os → HaveNumbers (known_names (zip ls os))
numbers-told [] os g = tt
numbers-told (l ∷ ls) [] g = tt
numbers-told (l ∷ ls) (o ∷ os) g =
    append-each _ (names_given (l, o)) (known_names (zip ls os)) (read-numbers (reading l) o g.0) (numbers-told ls os g.1)

-- a message as it begins
pub begins : (id sender message : List ℕ) (k : Keeping) (outcomes : List Entry) (known : List (ℕ × ℕ))
    → IsOfMessage sender message (k id) → ((kk : Kept) → k id ≡ Some kk → IsGoodKept kk)
    → outcomes ≡ told (lines_of message) (outcomes_kept (k id)) → known ≡ known_names outcomes
    → IsBegun id sender message k outcomes known
begins id sender message k outcomes known same good is names =
    let are = of_lines sender message (k id) same good in
    let back : outcomes_in outcomes ≡ outcomes_kept (k id) =
    ap outcomes_in is ∙ zip-seconds (lines_told (lines_of message)) (outcomes_kept (k id)) are.few in
    record {
      same = same;
      kept_are = sym back;
      told_are = ap (told (lines_of message)) back ∙ sym is;
      numbers = subst HaveNumbers (sym (names ∙ ap known_names is))
          (numbers-told (lines_told (lines_of message)) (outcomes_kept (k id)) (outcomes-good (k id) good));
    }

-- ---- one line more of the message

pub told-place : (ls : List (List ℕ)) (es : List Entry) (line : List ℕ) (o : Outcome) → zip ls (outcomes_in es) ≡ es
    → slice_get ls (length es) ≡ Some line → zip ls (outcomes_in (es ++ (line, o) ∷ [])) ≡ es ++ (line, o) ∷ []
told-place [] [] line o e at = absurd (cc)
told-place [] (x ∷ es) line o e at = absurd (cc)
told-place (l ∷ ls) [] line o e at = (λ i. (same_Some _ _ at i, o) ∷ zip-none {B = Outcome} ls i)
told-place (l ∷ ls) (x ∷ es) line o e at =
    let here : (l, x.1) ≡ x = cc in
    let later : zip ls (outcomes_in es) ≡ es = cc in
    λ i. here i ∷ told-place ls es line o later at i
