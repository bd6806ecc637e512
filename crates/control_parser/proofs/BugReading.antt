-- What bug words, and words that are names, give is good.
use Rattle.std.proofs.Common.{◌≡◌, ℕ, ◌<◌, List, [], ◌∷◌, length, ◌==◌, Option, Result, Some, None, Ok, Err, refl, arith}
use Rattle.std.specs.Prelude.{IfOk, IfSome, option_map}
use Rattle.std.specs.Option.{ok_or}
use Rattle.std.proofs.lemmas.Bool.{cond_both}
use Rattle.bug_record.specs.Sets.{Each}
use Rattle.bug_record.specs.declared.command.Refusal.{Refusal}
use Rattle.bug_record.specs.declared.command.Refusal.TheVariants.{Malformed}
use Rattle.base_words.specs.declared.named.Named.{Named}
use Rattle.base_words.specs.declared.named.Named.TheVariants.{Number, Name}
use Rattle.base_words.specs.Numbers.{without_hash, number_of_digits, IsGoodNumber}
use Rattle.base_words.specs.Bugs.{bug_of_text, bug_of_word, name_of_bug, name_of_word, IsGoodBug}
use Rattle.base_words.specs.Words.{words_with_commas, first_word, after_word}
use Rattle.control_grammar.specs.Commands.{and_read, read_bug, bug_alone, each_word, some_bugs, bug_and_others}
use Rattle.control_grammar.specs.Commands.{read_name, some_names, bug_and_names, is_by, by_bugs, bug_by_bugs}
use Rattle.base_words.proofs.NumberLemmas.{number_of_digits-good}

pub ok_or-good : {A : Type 0} (o : Option A) (refusal : Refusal) (P : A → Type 0) → IfSome o P → IfOk (ok_or o refusal) P
ok_or-good None refusal P h = tt
ok_or-good (Some x) refusal P h = h

pub and_read-good : {A B : Type 0} (r : Result A Refusal) (f : A → Result B Refusal) (P : A → Type 0) (Q : B → Type 0) → IfOk r P
    → ((x : A) → P x → IfOk (f x) Q) → IfOk (and_read r f) Q
and_read-good (Err refusal) f P Q h each = tt
and_read-good (Ok x) f P Q h each = each x h

good_bug_by : (o : Option ℕ) (make : ℕ → Named) → ((n : ℕ) → o ≡ Some n → IsGoodBug (make n))
    → IfSome (option_map make o) IsGoodBug
good_bug_by None make h = tt
good_bug_by (Some n) make h = h n refl

bug_of_text-good : (s : List ℕ) → IfSome (bug_of_text s) IsGoodBug
bug_of_text-good [] = tt
bug_of_text-good (c ∷ s) =
    let P : Option Named → Type 0 = λ o. IfSome o IsGoodBug in
    cond_both (c == 45) (option_map Name (number_of_digits s)) (option_map Number (number_of_digits (c ∷ s))) P
    (λ e. good_bug_by (number_of_digits s) Name (number_of_digits-good s))
    (λ e. good_bug_by (number_of_digits (c ∷ s)) Number (number_of_digits-good (c ∷ s)))

pub read_bug-good : (s : List ℕ) → IfOk (read_bug s) IsGoodBug
read_bug-good s = ok_or-good (bug_of_word s) Malformed IsGoodBug (bug_of_text-good (without_hash s))

pub bug_alone-good : (ws : List (List ℕ)) → IfOk (bug_alone ws) IsGoodBug
bug_alone-good [] = tt
bug_alone-good (n ∷ []) = read_bug-good n
bug_alone-good (n ∷ m ∷ ws) = tt

-- one good value or more
abbrev AreSome : {A : Type 0} → (A → Type 0) → List A → Type 0
AreSome P xs = Each P xs × (0 < length xs)

pub each_word-good : {A : Type 0} (read : List ℕ → Result A Refusal) (P : A → Type 0) → ((word : List ℕ) → IfOk (read word) P)
    → (ws : List (List ℕ)) → IfOk (each_word read ws) (Each P)
each_word-good read P each [] = tt
each_word-good read P each (word ∷ ws) =
    and_read-good (read word) _ P (Each P) (each word) (λ x good.
    and_read-good (each_word read ws) (λ xs. Ok (x ∷ xs)) (Each P) (Each P) (each_word-good read P each ws)
    (λ xs fine. (good, fine)))

pub some_words-good : {A : Type 0} (read : List ℕ → Result A Refusal) (P : A → Type 0) → ((word : List ℕ) → IfOk (read word) P)
    → (word : List ℕ) (ws : List (List ℕ)) → IfOk (each_word read (word ∷ ws)) (AreSome P)
some_words-good read P each word ws =
    and_read-good (read word) _ P (AreSome P) (each word) (λ x good.
    and_read-good (each_word read ws) (λ xs. Ok (x ∷ xs)) (Each P) (AreSome P) (each_word-good read P each ws)
    (λ xs fine. ((good, fine), omega arith)))

some_bugs-good : (ws : List (List ℕ)) → IfOk (some_bugs ws) (AreSome IsGoodBug)
some_bugs-good [] = tt
some_bugs-good (n ∷ ws) = some_words-good read_bug IsGoodBug read_bug-good n ws

pub bug_and_others-good : (ws : List (List ℕ)) → IfOk (bug_and_others ws) (λ both. IsGoodBug both.0 × AreSome IsGoodBug both.1)
bug_and_others-good [] = tt
bug_and_others-good (n ∷ ws) =
    and_read-good (read_bug n) _ IsGoodBug (λ both. IsGoodBug both.0 × AreSome IsGoodBug both.1) (read_bug-good n) (λ bug good.
    and_read-good (some_bugs ws) (λ others. Ok (bug, others)) (AreSome IsGoodBug)
    (λ both. IsGoodBug both.0 × AreSome IsGoodBug both.1) (some_bugs-good ws) (λ others fine. (good, fine)))

by_bugs-good : (text : List ℕ) → IfOk (by_bugs text) (AreSome IsGoodBug)
by_bugs-good text =
    let others = words_with_commas (after_word text) in
    cond_both (is_by (first_word text)) (some_bugs others) (Err Malformed) (λ r. IfOk r (AreSome IsGoodBug)) (λ e. some_bugs-good others)
    (λ e. tt)

pub bug_by_bugs-good : (arguments : List ℕ) → IfOk (bug_by_bugs arguments) (λ both. IsGoodBug both.0 × AreSome IsGoodBug both.1)
bug_by_bugs-good arguments =
    let rest = after_word arguments in
    let of_bug : Named → Result (Named × List Named) Refusal = λ bug. and_read (by_bugs rest) (λ others. Ok (bug, others)) in
    and_read-good (read_bug (first_word arguments)) of_bug IsGoodBug (λ both. IsGoodBug both.0 × AreSome IsGoodBug both.1)
    (read_bug-good (first_word arguments)) (λ bug good.
    and_read-good (by_bugs rest) (λ others. Ok (bug, others)) (AreSome IsGoodBug) (λ both. IsGoodBug both.0 × AreSome IsGoodBug both.1)
    (by_bugs-good rest) (λ others fine. (good, fine)))

-- names
name_of_bug-good : (bug : Option Named) → IfSome bug IsGoodBug → IfSome (name_of_bug bug) IsGoodNumber
name_of_bug-good None good = tt
name_of_bug-good (Some (Number n)) good = tt
name_of_bug-good (Some (Name k)) good = good

read_name-good : (word : List ℕ) → IfOk (read_name word) IsGoodNumber
read_name-good word =
    ok_or-good (name_of_word word) Malformed IsGoodNumber
    (name_of_bug-good (bug_of_word word) (bug_of_text-good (without_hash word)))

some_names-good : (ws : List (List ℕ)) → IfOk (some_names ws) (AreSome IsGoodNumber)
some_names-good [] = tt
some_names-good (k ∷ ws) = some_words-good read_name IsGoodNumber read_name-good k ws

pub bug_and_names-good : (ws : List (List ℕ)) → IfOk (bug_and_names ws) (λ both. IsGoodBug both.0 × AreSome IsGoodNumber both.1)
bug_and_names-good [] = tt
bug_and_names-good (n ∷ ws) =
    and_read-good (read_bug n) _ IsGoodBug (λ both. IsGoodBug both.0 × AreSome IsGoodNumber both.1) (read_bug-good n)
    (λ bug good.
    and_read-good (some_names ws) (λ names. Ok (bug, names)) (AreSome IsGoodNumber)
    (λ both. IsGoodBug both.0 × AreSome IsGoodNumber both.1) (some_names-good ws) (λ names fine. (good, fine)))
