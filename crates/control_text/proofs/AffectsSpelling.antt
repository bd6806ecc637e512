-- The packages of `affects`, as they are written, are read as they are.
use Rattle.std.proofs.Common.{◌≡◌, ℕ, List, [], ◌∷◌, Option, Some, Result, Ok, refl, ap, ◌∙◌, arith}
use Rattle.debver.specs.Names.{IsName}
use Rattle.bug_record.specs.Sets.{Each}
use Rattle.bug_record.specs.declared.command.AffectsStep.{AffectsStep}
use Rattle.bug_record.specs.declared.command.AffectsStep.TheVariants as affecting
use Rattle.bug_record.specs.declared.command.Command.{Command}
use Rattle.bug_record.specs.declared.command.Command.TheVariants as commands
use Rattle.bug_record.specs.declared.command.Refusal.{Refusal}
use Rattle.base_words.specs.declared.named.Named.{Named}
use Rattle.base_words.specs.Bugs.{IsGoodBug}
use Rattle.base_words.specs.Words.{words, words_with_commas, after_word}
use Rattle.control_grammar.specs.declared.signs.Sign.{Sign}
use Rattle.control_grammar.specs.declared.signs.Sign.TheVariants.{Plus, Minus, Equals}
use Rattle.control_grammar.specs.Commands.{and_read, read_bug, read_package, each_word, affects_step, are_given, affects_command, sign_and_words}
use Rattle.control_text.specs.Spelling.{bug_text, affects_sign}
use Rattle.control_text.specs.Spaces.{after_spaces}
use Rattle.control_grammar.specs.WellFormed.{HasPackages}
use Rattle.control_text.proofs.PlainWords.{name-plain, name-whole}
use Rattle.control_text.proofs.SpacedLemmas.{first_word-is, ArePlain, AreWhole, whole_plain, words-space, after_word-spaces}
use Rattle.control_text.proofs.SpacedLemmas.{commas-spaces}
use Rattle.control_text.proofs.SpellingLemmas.{bug-back, bug-plain, package-back}

sign_whole : (step : AffectsStep) (ws : List (List ℕ)) → AreWhole ws → AreWhole (affects_sign step ∷ ws)
sign_whole affecting.Add ws h = (record { some = refl; graphic = refl }, refl, h)
sign_whole affecting.Remove ws h = (record { some = refl; graphic = refl }, refl, h)
sign_whole affecting.Replace ws h = (record { some = refl; graphic = refl }, refl, h)

names_whole : (names : List (List ℕ)) → Each IsName names → AreWhole names
names_whole [] h = tt
names_whole (n ∷ names) h = (name-plain n h.0, name-whole n h.0, names_whole names h.1)

pub affects_plain : (n : Named) (step : AffectsStep) (names : List (List ℕ)) → IsGoodBug n → Each IsName names
    → ArePlain (bug_text n ∷ affects_sign step ∷ names)
affects_plain n step names good named =
    (bug-plain n good, whole_plain (affects_sign step ∷ names) (sign_whole step names (names_whole names named)))

names-back : (names : List (List ℕ)) → Each IsName names → each_word read_package names ≡ Ok names
names-back [] h = refl
names-back (n ∷ names) h =
    ap (λ r. and_read {B = List (List ℕ)} r (λ x. and_read (each_word read_package names) (λ xs. Ok (x ∷ xs)))) (package-back n h.0)
    ∙ ap (λ r. and_read {B = List (List ℕ)} r (λ xs. Ok (n ∷ xs))) (names-back names h.1)

abbrev sign_of : AffectsStep → Option Sign
sign_of affecting.Add = Some Plus
sign_of affecting.Remove = Some Minus
sign_of affecting.Replace = Some Equals

signed : (step : AffectsStep) (names : List (List ℕ)) → sign_and_words (affects_sign step ∷ names) ≡ (sign_of step, names)
signed affecting.Add names = refl
signed affecting.Remove names = refl
signed affecting.Replace names = refl

step-back : (step : AffectsStep) (names : List (List ℕ)) → HasPackages step names
    → affects_step (sign_of step) (are_given names) ≡ Ok step
step-back affecting.Add [] h = absurd (omega arith)
step-back affecting.Add (n ∷ names) h = refl
step-back affecting.Remove [] h = absurd (omega arith)
step-back affecting.Remove (n ∷ names) h = refl
step-back affecting.Replace names h = refl

pub affects-back : (n : Named) (step : AffectsStep) (names : List (List ℕ)) → IsGoodBug n → Each IsName names → HasPackages step names
    → affects_command (after_spaces (bug_text n ∷ affects_sign step ∷ names)) ≡ Ok (commands.Affects n step names)
affects-back n step names good named given =
    let word = bug-plain n good in
    let ws = affects_sign step ∷ names in
    let arguments = after_spaces (bug_text n ∷ ws) in
    let of_words : List (List ℕ) → Named → Result (Command Named) Refusal =
    λ vs bug. and_read (affects_step (sign_and_words vs).0 (are_given (sign_and_words vs).1)) (λ s.
    and_read (each_word read_package (sign_and_words vs).1) (λ read. Ok (commands.Affects bug s read))) in
    let of_signed : Option Sign × List (List ℕ) → Result (Command Named) Refusal =
    λ both. and_read (affects_step both.0 (are_given both.1)) (λ s.
    and_read (each_word read_package both.1) (λ read. Ok (commands.Affects n s read))) in
    let rest : words_with_commas (after_word arguments) ≡ ws =
    ap words_with_commas (after_word-spaces (bug_text n) ws word) ∙ commas-spaces ws (sign_whole step names (names_whole names named)) in
    let of_bug = of_words (words_with_commas (after_word arguments)) in
    ap (λ w. and_read (read_bug w) of_bug)
    (first_word-is arguments (bug_text n) (words (after_spaces ws)) (words-space (bug_text n) ws word))
    ∙ ap (λ r. and_read r of_bug) (bug-back n good)
    ∙ ap (λ vs. of_words vs n) rest
    ∙ ap of_signed (signed step names)
    ∙ ap (λ r. and_read {B = Command Named} r (λ s. and_read (each_word read_package names) (λ read. Ok (commands.Affects n s read))))
    (step-back step names given)
    ∙ ap (λ r. and_read {B = Command Named} r (λ read. Ok (commands.Affects n step read))) (names-back names named)
