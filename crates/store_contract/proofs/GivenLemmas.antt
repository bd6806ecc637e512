-- The names that a message has given, and the numbers that they stand for.
use Rattle.std.proofs.Common.{◌≡◌, ℕ, List, [], ◌∷◌, ◌++◌, Result, Ok, Err, sym, ap, subst, refl, ◌∙◌, append_assoc}
use Rattle.std.specs.Prelude.{zip}
use Rattle.std.proofs.lemmas.List.{append-nil}
use Rattle.bug_record.specs.Sets.{Each}
use Rattle.bug_record.specs.Commands.{names_in}
use Rattle.bug_record.specs.Words.{Names}
use Rattle.bug_record.specs.declared.command.Command.{Command}
use Rattle.bug_record.specs.declared.command.Refusal.{Refusal}
use Rattle.base_words.specs.Numbers.{IsGoodNumber}
use Rattle.base_words.specs.declared.named.Named.{Named}
use Rattle.control_grammar.specs.Lines.{reading}
use Rattle.control_grammar.specs.declared.line.Line.{Line}
use Rattle.control_grammar.specs.declared.line.Line.TheVariants.{Blank, Comment, Stop, Do}
use Rattle.bug_record.specs.declared.outcome.Outcome.{Outcome}
use Rattle.bug_record.specs.declared.outcome.Outcome.TheVariants.{Changed, Refused, Stopped}
use Rattle.store_contract.specs.Kept.{IsGoodOutcome}
use Rattle.store_contract.specs.Message.{Entry, names_with, names_given, known_names, names_of}
use Rattle.store_contract.specs.Known.{AreOfBugs}
use Rattle.store_contract.specs.Progress.{HaveNumbers}

-- the names after one line more
pub known-push : (es : List Entry) (e : Entry) → known_names (es ++ e ∷ []) ≡ known_names es ++ names_given e
known-push [] e = append-nil (names_given e)
known-push (x ∷ es) e =
    ap (λ (ks : Names). names_given x ++ ks) (known-push es e) ∙ sym (append_assoc (names_given x) (known_names es) (names_given e))

pub known-more : (names new : Names) (es more : List Entry) (e : Entry) → names ≡ known_names es → more ≡ es ++ e ∷ []
    → new ≡ names ++ names_given e → new ≡ known_names more
known-more names new es more e k m n =
    n ∙ (ap (λ (ks : Names). ks ++ names_given e) k ∙ (sym (known-push es e) ∙ ap known_names (sym m)))

-- a line that gives none
pub known-same : (names new : Names) (es more : List Entry) (e : Entry) → names ≡ known_names es → more ≡ es ++ e ∷ []
    → names_given e ≡ [] → new ≡ names → new ≡ known_names more
known-same names new es more e k m g n =
    known-more names new es more e k m (n ∙ (sym (append-nil names) ∙ ap (λ (ks : Names). names ++ ks) (sym g)))

-- the names of a line that is a command
pub given-of : (line : List ℕ) (command : Command Named) (outcome : Outcome) → reading line ≡ Ok (Do command)
    → names_given (line, outcome) ≡ names_of (names_in command) outcome
given-of line command (Changed numbers) e = ap (λ r. names_with r (Changed numbers)) e
given-of line command (Refused refusal) e = ap (λ r. names_with r (Refused refusal)) e
given-of line command Stopped e = ap (λ r. names_with r Stopped) e

-- a refused line and a stop give none
none-refused : (r : Result Line Refusal) (refusal : Refusal) → names_with r (Refused refusal) ≡ []
none-refused (Ok Blank) refusal = refl
none-refused (Ok Comment) refusal = refl
none-refused (Ok Stop) refusal = refl
none-refused (Ok (Do command)) refusal = refl
none-refused (Err other) refusal = refl

none-stopped : (r : Result Line Refusal) → names_with r Stopped ≡ []
none-stopped (Ok Blank) = refl
none-stopped (Ok Comment) = refl
none-stopped (Ok Stop) = refl
none-stopped (Ok (Do command)) = refl
none-stopped (Err other) = refl

pub given-refused : (line : List ℕ) (refusal : Refusal) → names_given (line, Refused refusal) ≡ []
given-refused line refusal = none-refused (reading line) refusal

pub given-stopped : (line : List ℕ) → names_given (line, Stopped) ≡ []
given-stopped line = none-stopped (reading line)

-- a list after another
pub append-each : {T : Type 0} (P : T → Type 0) (xs ys : List T) → Each P xs → Each P ys → Each P (xs ++ ys)
append-each P [] ys h k = k
append-each P (x ∷ xs) ys h k = (h.0, append-each P xs ys h.1 k)

zip-each : (P : ℕ → Type 0) (ks ns : List ℕ) → Each P ns → Each (λ (p : ℕ × ℕ). P p.1) (zip ks ns)
zip-each P [] ns h = tt
zip-each P (k ∷ ks) [] h = tt
zip-each P (k ∷ ks) (n ∷ ns) h = (h.0, zip-each P ks ns h.1)

-- names that have numbers stand for numbers that bugs may have
pub of_bugs : (names : Names) → HaveNumbers names → AreOfBugs names
of_bugs [] h = tt
of_bugs (p ∷ names) h = (h.0.most, of_bugs names h.1)

-- the names that a good outcome gives have numbers
pub given-numbers : (ks : List ℕ) (outcome : Outcome) → IsGoodOutcome outcome → HaveNumbers (names_of ks outcome)
given-numbers ks (Changed numbers) h = zip-each IsGoodNumber ks numbers h.1
given-numbers ks (Refused refusal) h = tt
given-numbers ks Stopped h = tt

pub have-more : (names new : Names) (ks : List ℕ) (outcome : Outcome) → new ≡ names ++ names_of ks outcome
    → HaveNumbers names → IsGoodOutcome outcome → HaveNumbers new
have-more names new ks outcome is h g =
    subst HaveNumbers (sym is) (append-each (λ (p : ℕ × ℕ). IsGoodNumber p.1) names (names_of ks outcome) h (given-numbers ks outcome g))
