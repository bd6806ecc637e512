-- Texts of commands, as they are written, are read as they are.
use Rattle.std.proofs.Common.{◌≡◌, ℕ, ◌≤◌, nat_lt, false, List, [], ◌∷◌, ◌++◌, length, Some, None, Result, Ok, Err, codes, refl}
use Rattle.std.proofs.Common.{ap, ◌∙◌, append-nil, arith}
use Rattle.std.specs.List.{list_any}
use Rattle.std.specs.Str.{bytes_eq}
use Rattle.std.proofs.lemmas.Bool.{cond-false, le-ltb, false_from_ne_true}
use Rattle.std.proofs.lemmas.Slice.Eq.{bytes_eq-Decides}
use Rattle.base_words.specs.Blanks.{is_control}
use Rattle.base_words.specs.Texts.{IsText}
use Rattle.bug_record.specs.Commands.{IsGoodPerson}
use Rattle.bug_record.specs.declared.command.Who.{Who}
use Rattle.bug_record.specs.declared.command.Who.TheVariants.{Sender, Given}
use Rattle.bug_record.specs.declared.command.Refusal.{Refusal}
use Rattle.bug_record.specs.declared.command.Refusal.TheVariants.{TooLong}
use Rattle.base_words.specs.declared.named.Named.{Named}
use Rattle.base_words.specs.Bugs.{IsGoodBug}
use Rattle.base_words.specs.Words.{words, trimmed, after_word}
use Rattle.control_grammar.specs.Commands.{and_read, read_bug, limited_text, who_of_text, some_text, some_who, optional_who}
use Rattle.control_grammar.specs.Commands.{bug_and_text, bug_and_some_text, bug_and_some_who}
use Rattle.control_grammar.specs.WellFormed.{IsPlain, IsAddress}
use Rattle.control_text.specs.Spelling.{bug_text, who_text}
use Rattle.control_text.specs.Spaces.{after_spaces}
use Rattle.control_parser.proofs.TextLemmas.{text_parts, text-trimmed}
use Rattle.control_text.proofs.SpacedLemmas.{words-space, after_word-spaces, trimmed-space, first_word-is}
use Rattle.control_text.proofs.SpellingLemmas.{bug-back, bug-plain}

unequal_false : (s t : List ℕ) → ¬ (s ≡ t) → bytes_eq s t ≡ false
unequal_false s t other = false_from_ne_true (bytes_eq s t) (λ e. other ((bytes_eq-Decides s t).0 e))

limited-back : (text : List ℕ) → length text ≤ 200 → limited_text text ≡ Ok text
limited-back text most = cond-false (nat_lt 200 (length text)) (Err TooLong) (Ok text) (le-ltb 200 (length text) most)

who-back : (text : List ℕ) → length text ≤ 200 → ¬ (text ≡ codes "!") → who_of_text text ≡ Ok (Given text)
who-back text most sender =
    let limited : Result Who Refusal = and_read (limited_text text) (λ t. Ok (Given t)) in
    cond-false (bytes_eq text (codes "!")) (Ok Sender) limited (unequal_false text (codes "!") sender)
    ∙ ap (λ r. and_read {B = Who} r (λ t. Ok (Given t))) (limited-back text most)

given-back : (text : List ℕ) → IsText text → ¬ (text ≡ codes "!") → ¬ (text ≡ codes "=")
    → optional_who text ≡ Ok (Some (Given text))
given-back [] good sender nobody = let parts = text_parts [] good in let least = parts.least in absurd (omega arith)
given-back (c ∷ s) good sender nobody =
    let text = c ∷ s in
    let parts = text_parts text good in
    cond-false (bytes_eq text (codes "=")) (Ok None) (and_read (who_of_text text) (λ who. Ok (Some who)))
    (unequal_false text (codes "=") nobody)
    ∙ ap (λ r. and_read r (λ who. Ok (Some who))) (who-back text parts.most sender)

some_text-back : (text : List ℕ) → IsText text → some_text text ≡ Ok text
some_text-back [] good = let parts = text_parts [] good in let least = parts.least in absurd (omega arith)
some_text-back (c ∷ s) good = let parts = text_parts (c ∷ s) good in limited-back (c ∷ s) parts.most

address-back : (text : List ℕ) → IsText text → ¬ (text ≡ codes "!") → some_who text ≡ Ok (Given text)
address-back [] good sender = let parts = text_parts [] good in let least = parts.least in absurd (omega arith)
address-back (c ∷ s) good sender = let parts = text_parts (c ∷ s) good in who-back (c ∷ s) parts.most sender

-- what is known of a person who can be written as the submitter of a bug that is opened again
pub record IsWrittenWho (who : Who) : Type 0 where
  pub back : optional_who (who_text who) ≡ Ok (Some who)
  pub trim : trimmed (who_text who) ≡ who_text who
  pub clean : list_any is_control (who_text who) ≡ false

pub written_who : (who : Who) → IsGoodPerson who → IsPlain (Some who) → IsWrittenWho who
written_who Sender good plain = record { back = refl; trim = refl; clean = refl }
written_who (Given text) good plain = let parts = text_parts text good in
    record { back = given-back text good plain.0 plain.1; trim = text-trimmed text good; clean = parts.clean }

-- the same of another person
pub record IsWrittenAddress (who : Who) : Type 0 where
  pub back : some_who (who_text who) ≡ Ok who
  pub trim : trimmed (who_text who) ≡ who_text who
  pub clean : list_any is_control (who_text who) ≡ false

pub written_address : (who : Who) → IsGoodPerson who → IsAddress who → IsWrittenAddress who
written_address Sender good address = record { back = refl; trim = refl; clean = refl }
written_address (Given text) good address = let parts = text_parts text good in
    record { back = address-back text good address; trim = text-trimmed text good; clean = parts.clean }

-- a bug and the text after it
pub bug_and_text-back : (arguments n : List ℕ) (more : List (List ℕ)) (bug : Named) → words arguments ≡ n ∷ more
    → read_bug n ≡ Ok bug → bug_and_text arguments ≡ Ok (bug, trimmed (after_word arguments))
bug_and_text-back arguments n more bug e is =
    let of_bug : Named → Result (Named × List ℕ) Refusal = λ b. Ok (b, trimmed (after_word arguments)) in
    ap (λ w. and_read (read_bug w) of_bug) (first_word-is arguments n more e)
    ∙ ap (λ r. and_read r of_bug) is

pub bug_and_written-back : (n : Named) (text : List ℕ) → IsGoodBug n → trimmed text ≡ text
    → bug_and_text (after_spaces (bug_text n ∷ text ∷ [])) ≡ Ok (n, text)
bug_and_written-back n text good is =
    let word = bug-plain n good in
    let arguments = after_spaces (bug_text n ∷ text ∷ []) in
    let rest : trimmed (after_word arguments) ≡ text
    = ap trimmed (after_word-spaces (bug_text n) (text ∷ []) word) ∙ trimmed-space (text ++ []) ∙ ap trimmed (append-nil text)
    ∙ is in
    bug_and_text-back arguments (bug_text n) (words (after_spaces (text ∷ []))) n (words-space (bug_text n) (text ∷ []) word)
    (bug-back n good)
    ∙ ap (λ t. Ok (n, t)) rest

pub bug_and_some_text-back : (n : Named) (text : List ℕ) → IsGoodBug n → IsText text
    → bug_and_some_text (after_spaces (bug_text n ∷ text ∷ [])) ≡ Ok (n, text)
bug_and_some_text-back n text good fine =
    let more : Named × List ℕ → Result (Named × List ℕ) Refusal = λ both. and_read (some_text both.1) (λ t. Ok (both.0, t)) in
    ap (λ r. and_read r more) (bug_and_written-back n text good (text-trimmed text fine))
    ∙ ap (λ r. and_read {B = Named × List ℕ} r (λ t. Ok (n, t))) (some_text-back text fine)

pub bug_and_some_who-back : (n : Named) (who : Who) → IsGoodBug n → IsGoodPerson who → IsAddress who
    → bug_and_some_who (after_spaces (bug_text n ∷ who_text who ∷ [])) ≡ Ok (n, who)
bug_and_some_who-back n who good person address =
    let written = written_address who person address in
    let more : Named × List ℕ → Result (Named × Who) Refusal = λ both. and_read (some_who both.1) (λ w. Ok (both.0, w)) in
    ap (λ r. and_read r more) (bug_and_written-back n (who_text who) good written.trim)
    ∙ ap (λ r. and_read {B = Named × Who} r (λ w. Ok (n, w))) written.back
