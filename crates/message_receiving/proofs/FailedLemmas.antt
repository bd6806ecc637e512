-- A line that asks for memory or the store has an outcome.
use Rattle.std.proofs.Common.{◌≡◌, inl, inr, ℕ, true, false, ◌==◌, List, [], ◌∷◌, Option, Some, None, Result, Ok, Err, IsTrue, IsSome, is_some}
use Rattle.std.proofs.Common.{refl, sym, ap, subst, ◌∙◌, if◌then◌else◌}
use Rattle.std.specs.List.{list_any}
use Rattle.std.proofs.lemmas.Bool.{cases_Bool, cond_both, eqb-true, false≢true}
use Rattle.base_words.specs.Blanks.{is_blank, is_control}
use Rattle.base_words.specs.Words.{has_bytes, words, first_word, after_word}
use Rattle.base_words.proofs.WordLemmas.{words-first}
use Rattle.base_words.specs.declared.named.Named.{Named}
use Rattle.bug_record.specs.declared.command.Command.{Command}
use Rattle.bug_record.specs.declared.command.Refusal.{Refusal}
use Rattle.bug_record.specs.declared.command.Refusal.TheVariants.{Unknown, Malformed}
use Rattle.control_grammar.specs.CommandWords.{command_word}
use Rattle.control_grammar.specs.Commands.{and_read, command_of}
use Rattle.control_grammar.specs.declared.command_word.CommandWord.{CommandWord}
use Rattle.control_grammar.specs.Lines.{begins_hash, is_stop_line, command_reading, reading_of_words, reading, BeginsWithCommand}
use Rattle.control_grammar.specs.declared.line.Line.{Line}
use Rattle.control_grammar.specs.declared.line.Line.TheVariants.{Comment, Stop, Do}
use Rattle.std.specs.Prelude.{ok_or, OnErr}
use Rattle.store_contract.specs.Kept.{reads_as_command, has_outcome}

-- where a call fails, what is true anyway
pub on_err : {T E P : Type 0} (r : Result T E) → P → OnErr r P
on_err (Ok done) p = tt
on_err (Err fault) p = p

-- neither no word at all nor one that begins with `#` is a command
none_there : (o : Option CommandWord) → o ≡ None → IsSome o → ⊥
none_there o e some = false≢true (sym (ap is_some e) ∙ some)

no_word : command_word [] ≡ None
no_word = refl

hash_is_none : (s : List ℕ) → command_word (35 ∷ s) ≡ None
hash_is_none s = refl

no_bytes : (word : List ℕ) → has_bytes word ≡ false → IsSome (command_word word) → ⊥
no_bytes [] none some = none_there (command_word []) no_word some
no_bytes (c ∷ s) none some = false≢true (sym none)

no_hash : (word : List ℕ) → begins_hash word ≡ true → IsSome (command_word word) → ⊥
no_hash [] hash some = false≢true hash
no_hash (c ∷ s) hash some =
    none_there (command_word (c ∷ s)) (ap (λ (d : ℕ). command_word (d ∷ s)) (eqb-true c 35 hash) ∙ hash_is_none s) some

-- a line that begins with a command
read_command : (r : Result (Command Named) Refusal) → IsTrue (reads_as_command (and_read r (λ meant. Ok (Do meant))))
read_command (Ok meant) = refl
read_command (Err refusal) = refl

read_as : (text : List ℕ) (word : Result CommandWord Refusal)
    → IsTrue (reads_as_command (and_read word (λ command. command_reading command text)))
read_as text (Err refusal) = refl
read_as text (Ok command) =
    cond_both (list_any is_control text) (Err Malformed) (and_read (command_of command (after_word text)) (λ meant. Ok (Do meant)))
    (λ r. IsTrue (reads_as_command r)) (λ e. refl) (λ e. read_command (command_of command (after_word text)))

read_of_words : (text word : List ℕ) (arguments : List (List ℕ)) → begins_hash word ≡ false
    → IsTrue (reads_as_command (reading_of_words text (word ∷ arguments)))
read_of_words text word arguments clear =
    let command : Result Line Refusal = and_read (ok_or (command_word word) Unknown) (λ c. command_reading c text) in
    let others : Result Line Refusal = if is_stop_line (word ∷ arguments) then Ok Stop else command in
    cond_both (begins_hash word) (Ok Comment) others (λ r. IsTrue (reads_as_command r))
    (λ e. absurd (false≢true (sym clear ∙ e)))
    (λ e. cond_both (is_stop_line (word ∷ arguments)) (Ok Stop) command (λ r. IsTrue (reads_as_command r)) (λ f. refl)
    (λ f. read_as text (ok_or (command_word word) Unknown)))

-- so it is not blank and no comment
pub command_told : (line : List ℕ) → BeginsWithCommand line → IsTrue (has_outcome line)
unfolding reading
command_told line some =
    elim (cases_Bool (has_bytes (first_word line))) [
      | inr none ↦ absurd (no_bytes (first_word line) none some)
      | inl there ↦ subst (λ (ws : List (List ℕ)). IsTrue (reads_as_command (reading_of_words line ws)))
          (sym (words-first is_blank line (first_word line) (after_word line) refl refl there))
          (elim (cases_Bool (begins_hash (first_word line))) [
            | inl hash ↦ absurd (no_hash (first_word line) hash some)
            | inr clear ↦ read_of_words line (first_word line) (words (after_word line)) clear
          ])
    ]
