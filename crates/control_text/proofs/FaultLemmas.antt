-- Which fault words have.
use Rattle.std.proofs.Common.{◌≡◌, ◌≢◌, ℕ, List, [], ◌∷◌, Option, Some, None, refl, ap, sym, ◌∙◌, map, length, true, false, arith}
use Rattle.std.proofs.lemmas.Bool.{eqb-true}
use Rattle.std.specs.Prelude.{◌==◌, option_map}
use Rattle.std.specs.List.{flat_map, position, list_any}
use Rattle.base_words.specs.Blanks.{is_control}
use Rattle.control_text.specs.Tokens.{Text, Word, commands}
use Rattle.control_text.specs.BugPlaces.{marked}
use Rattle.control_text.specs.WordLines.{bad_word, bad_word_or, command_fault, first_fault, lines, lines_after, unset_it, IsFaultOf}
use Rattle.control_text.specs.Unset.{unset, IsUnsetIn}
use Rattle.control_text.specs.declared.fault.WordsFault.{WordsFault}
use Rattle.control_text.specs.declared.fault.WordsFault.TheVariants.{BadWord, NoCommand, ItUnset, Memory}
use Rattle.control_text.proofs.ReadLemmas.{position-map}

pub bad_at : {A : Type 0} (f : A → Text) (xs : List A) (o : Option ℕ) → o ≡ position (λ x. list_any is_control (f x)) xs → bad_word (map f xs) ≡ o
bad_at f xs o h = position-map (list_any is_control) f xs ∙ sym h

pub fault-bad : (words : List Text) (place : ℕ) → bad_word words ≡ Some place → first_fault words ≡ Some (BadWord place)
fault-bad words place h = ap (λ o. bad_word_or o (command_fault (commands words))) h

fault-good : (words : List Text) → bad_word words ≡ None → first_fault words ≡ command_fault (commands words)
fault-good words h = ap (λ o. bad_word_or o (command_fault (commands words))) h

unset_there : (cs : List (List Word)) (place : ℕ) → unset_it (flat_map marked cs) ≡ Some place → command_fault cs ≡ Some (ItUnset place)
unset_there [] place h = absurd (cc)
unset_there (command ∷ more) place h = ap (option_map ItUnset) h

none_there : (cs : List (List Word)) → lines_after None (map marked cs) ≡ [] → command_fault cs ≡ Some NoCommand
none_there [] h = refl
none_there (command ∷ more) h = absurd (cc)

all_there : (cs : List (List Word)) → unset_it (flat_map marked cs) ≡ None → lines_after None (map marked cs) ≢ [] → command_fault cs ≡ None
all_there [] h some = absurd (some refl)
all_there (command ∷ more) h some = ap (option_map ItUnset) h

pub fault-unset : (words : List Text) (fault : WordsFault) → bad_word words ≡ None → IsUnsetIn words fault → IsFaultOf words fault
fault-unset words Memory good h = h
fault-unset words NoCommand good h = absurd h
fault-unset words (BadWord place) good h = absurd h
fault-unset words (ItUnset place) good h = fault-good words good ∙ unset_there (commands words) place h

pub fault-none_there : (words : List Text) → bad_word words ≡ None → lines words ≡ [] → first_fault words ≡ Some NoCommand
fault-none_there words good h = fault-good words good ∙ none_there (commands words) h

pub fault-none : (words : List Text) → bad_word words ≡ None → unset words ≡ None → lines words ≢ [] → first_fault words ≡ None
fault-none words good h some = fault-good words good ∙ all_there (commands words) h some

pub empty-map : {A B : Type 0} (f : A → B) (xs : List A) (ys : List B) → map f xs ≡ ys → (n : ℕ) → n ≡ length xs → true ≡ (n == 0) → ys ≡ []
empty-map f [] ys h n len e = sym h
empty-map f (x ∷ xs) ys h n len e = let none : n ≡ 0 = eqb-true n 0 (sym e) in absurd (omega arith)

pub some-map : {A B : Type 0} (f : A → B) (xs : List A) (ys : List B) → map f xs ≡ ys → (n : ℕ) → n ≡ length xs → false ≡ (n == 0) → ys ≢ []
some-map f [] ys h n len e = let none : (n == 0) ≡ true = ap (λ m. m == 0) len in absurd (cc)
some-map f (x ∷ xs) ys h n len e = λ none. let bad : f x ∷ map f xs ≡ [] = h ∙ none in cc
