-- What steps of tags are read from words.
use Rattle.std.proofs.Common.{◌≡◌, ℕ, Bool, false, ◌==◌, ◌≢◌, cond, List, [], ◌∷◌, ◌++◌, Option, Some, None, Result, Ok, Err}
use Rattle.std.proofs.Common.{refl, ap, sym, ◌∙◌, append_assoc}
use Rattle.std.proofs.lemmas.Bool.{cond-false, ne_eqb}
use Rattle.bug_record.specs.declared.command.TagStep.{TagStep}
use Rattle.bug_record.specs.declared.command.Refusal.{Refusal}
use Rattle.control_grammar.specs.declared.signs.Sign.{Sign}
use Rattle.control_grammar.specs.declared.signs.Sign.TheVariants.{Plus, Minus, Equals}
use Rattle.base_words.specs.Words.{words_with_commas}
use Rattle.control_grammar.specs.Commands.{and_read, each_word, with_rest, sign_and_rest, adds_after, word_steps, all_steps}
use Rattle.control_parser.specs.Reads.{Reads}
use Rattle.control_parser.specs.Growing.{ReadsMore}
use Rattle.control_parser.specs.declared.fault.LineFault.{LineFault}
use Rattle.control_parser.specs.declared.fault.LineFault.TheVariants.{Refused, Memory}

-- a word that begins with no sign
other : (k c : ℕ) (s : List ℕ) → ((rest : List ℕ) → (c ∷ s) ≢ k ∷ rest) → (c == k) ≡ false
other k c s h = ne_eqb c k (λ e. h s (ap (λ x. x ∷ s) e))

pub sign-none : (s : List ℕ) → ((rest : List ℕ) → s ≢ 43 ∷ rest) → ((rest : List ℕ) → s ≢ 45 ∷ rest)
    → ((rest : List ℕ) → s ≢ 61 ∷ rest) → sign_and_rest s ≡ (None, s)
sign-none [] plus minus equals = refl
sign-none (c ∷ s) plus minus equals =
    let none : Option Sign × List ℕ = (None, c ∷ s) in
    cond-false (c == 43) (Some Plus, s) (cond (c == 45) (Some Minus, s) (cond (c == 61) (Some Equals, s) none))
    (other 43 c s plus)
    ∙ cond-false (c == 45) (Some Minus, s) (cond (c == 61) (Some Equals, s) none) (other 45 c s minus)
    ∙ cond-false (c == 61) (Some Equals, s) none (other 61 c s equals)

-- steps that are read one by one
pub steps-behind : (w r : Result (List TagStep) Refusal) (before after : List TagStep)
    → and_read w (λ more. Ok (before ++ more)) ≡ Ok after
    → and_read r (λ more. Ok (after ++ more))
    ≡ and_read (and_read w (λ steps. and_read r (λ others. Ok (steps ++ others)))) (λ more. Ok (before ++ more))
steps-behind (Err refusal) r before after h = absurd (cc)
steps-behind (Ok steps) (Err refusal) before after h = refl
steps-behind (Ok steps) (Ok others) before after h =
    let is : before ++ steps ≡ after = cc in
    ap (λ s. Ok (s ++ others)) (sym is) ∙ ap Ok (append_assoc before steps others)

pub steps-preserved : (adds now : Bool) (rest more word tag : List ℕ) (sign : Option Sign) (before after : List TagStep)
    (all : Result (List TagStep) Refusal) → words_with_commas rest ≡ word ∷ words_with_commas more → sign ≡ (sign_and_rest word).0
    → tag ≡ (sign_and_rest word).1 → now ≡ adds_after sign adds
    → and_read (word_steps now sign tag) (λ more. Ok (before ++ more)) ≡ Ok after
    → and_read (all_steps adds (words_with_commas rest)) (λ more. Ok (before ++ more)) ≡ all
    → and_read (all_steps now (words_with_commas more)) (λ more. Ok (after ++ more)) ≡ all
steps-preserved adds now rest more word tag sign before after all cut signed tagged is read kept =
    let same : now ≡ adds_after (sign_and_rest word).0 adds = is ∙ ap (λ s. adds_after s adds) signed in
    let both : word_steps now sign tag ≡ word_steps now (sign_and_rest word).0 (sign_and_rest word).1 =
    (λ i. word_steps now (signed i) (tagged i)) in
    let step = steps-behind (word_steps now (sign_and_rest word).0 (sign_and_rest word).1) (all_steps now (words_with_commas more))
    before after (ap (λ w. and_read w (λ m. Ok (before ++ m))) (sym both) ∙ read) in
    step
    ∙ ap (λ n. and_read (and_read (word_steps n (sign_and_rest word).0 (sign_and_rest word).1)
    (λ steps. and_read (all_steps n (words_with_commas more)) (λ others. Ok (steps ++ others)))) (λ m. Ok (before ++ m))) same
    ∙ ap (λ ws. and_read (all_steps adds ws) (λ m. Ok (before ++ m))) (sym cut)
    ∙ kept

-- ---- packages after a sign

-- the rest of the first word is read before the words after it
each_rest : {A : Type 0} (read : List ℕ → Result A Refusal) (rest : List ℕ) (words : List (List ℕ))
    → each_word read (with_rest rest words) ≡ and_read (each_word read (with_rest rest [])) (λ first. and_read (each_word read words) (λ more. Ok (first ++ more)))
each_rest read [] words = alone (each_word read words)
  where
    alone : {A : Type 0} (r : Result (List A) Refusal) → r ≡ and_read r (λ more. Ok ([] ++ more))
    alone (Ok more) = refl
    alone (Err refusal) = refl
each_rest {A = A} read (c ∷ word) words = begun (read (c ∷ word))
  where
    begun : (r : Result A Refusal)
        → and_read r (λ x. and_read (each_word read words) (λ xs. Ok (x ∷ xs)))
        ≡ and_read (and_read r (λ x. and_read (Ok []) (λ xs. Ok (x ∷ xs)))) (λ first. and_read (each_word read words) (λ more. Ok (first ++ more)))
    begun (Ok x) = refl
    begun (Err refusal) = refl

pub rest-read : {A : Type 0} (read : List ℕ → Result A Refusal) (rest : List ℕ) (words : List (List ℕ)) (first after : List A)
    → each_word read (with_rest rest []) ≡ Ok first → and_read (each_word read words) (λ more. Ok (first ++ more)) ≡ Ok after → each_word read (with_rest rest words) ≡ Ok after
rest-read read rest words first after one all =
    each_rest read rest words ∙ ap (λ r. and_read r (λ first. and_read (each_word read words) (λ more. Ok (first ++ more)))) one ∙ all

pub rest-refused : {A : Type 0} (read : List ℕ → Result A Refusal) (rest : List ℕ) (words : List (List ℕ)) (fault : LineFault)
    → Reads (each_word read (with_rest rest [])) (Err fault) → Reads (each_word read (with_rest rest words)) (Err fault)
rest-refused read rest words (Refused refusal) one =
    each_rest read rest words ∙ ap (λ r. and_read r (λ first. and_read (each_word read words) (λ more. Ok (first ++ more)))) one
rest-refused read rest words Memory one = tt

-- the words after it are refused
pub rest-behind : {A : Type 0} (U : Type 0) (read : List ℕ → Result A Refusal) (rest : List ℕ) (words : List (List ℕ)) (first after : List A)
    (fault : LineFault) → each_word read (with_rest rest []) ≡ Ok first
    → ReadsMore {A = A} {U = U} (each_word read words) first after (Err fault) → Reads (each_word read (with_rest rest words)) (Err fault)
rest-behind U read rest words first after (Refused refusal) one refused =
    each_rest read rest words ∙ ap (λ r. and_read r (λ first. and_read (each_word read words) (λ more. Ok (first ++ more)))) one
    ∙ ap (λ w. and_read w (λ more. Ok (first ++ more))) refused
rest-behind U read rest words first after Memory one refused = tt
