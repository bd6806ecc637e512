use Rattle.std.proofs.Common.{◌≡◌, ℕ, Bool, true, false, cond, List, [], ◌∷◌, Some, length, map, refl, sym, ap, ◌∙◌}
use Rattle.std.specs.Prelude.{◌==◌}
use Rattle.std.specs.Char.{to_ascii_lowercase}
use Rattle.std.specs.List.{find, filter}
use Rattle.std.proofs.lemmas.List.{length-map}
use Rattle.std.proofs.lemmas.Bool.{false≢true, eq-eqb}
use Rattle.std.proofs.lemmas.Slice.Eq.{bytes_eq-Decides}
use Rattle.base_words.specs.AnyCase.{is_word}
use Rattle.control_grammar.specs.CommandWords.{all_command_words, command_name}
use Rattle.control_grammar.proofs.command_word.CommandWord.read.Goals as goal

-- what passes p is found among those that pass q, where all that pass p do
find-filter : {X : Type 0} (p q : X → Bool) → ((x : X) → p x ≡ true → q x ≡ true)
    → (xs : List X) → find p (filter q xs) ≡ find p xs
find-filter p q implies [] = refl
find-filter p q implies (x ∷ xs) =
    elim (q x) as (λ t. q x ≡ t → find p (cond t (x ∷ filter q xs) (filter q xs)) ≡ cond (p x) (Some x) (find p xs)) [
      | true ↦ λ passes. ap (cond (p x) (Some x)) (find-filter p q implies xs)
      | false ↦ λ fails. elim (p x) as (λ t. p x ≡ t → find p (filter q xs) ≡ cond t (Some x) (find p xs)) [
        | true ↦ λ passes. absurd (false≢true (sym fails ∙ implies x passes))
        | false ↦ λ also. find-filter p q implies xs
      ] refl
    ] refl

-- a word has the length of the name that it is
same-length : (word name : List ℕ) → is_word word name ≡ true → (length name == length word) ≡ true
same-length word name is =
    let lowered : map to_ascii_lowercase word ≡ map to_ascii_lowercase name = (bytes_eq-Decides _ _).0 is in
    eq-eqb _ _ (sym (length-map name to_ascii_lowercase) ∙ ap length (sym lowered) ∙ length-map word to_ascii_lowercase)

pub returns : goal.returns
returns c =
    let word : List ℕ = c.args.word.now in
    c.find_spelled.ensures
    ∙ ap (find (λ command. is_word word (command_name command))) c.of_size.ensures
    ∙ find-filter (λ command. is_word word (command_name command)) (λ command. length (command_name command) == length word)
    (λ command. same-length word (command_name command)) all_command_words
