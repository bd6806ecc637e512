-- Bugs in a row, as they are written, are read as they are.
use Rattle.std.proofs.Common.{◌≡◌, ℕ, ◌<◌, List, [], ◌∷◌, length, map, Result, Ok, refl, ap, ◌∙◌, arith}
use Rattle.bug_record.specs.Sets.{Each}
use Rattle.bug_record.specs.declared.command.Refusal.{Refusal}
use Rattle.base_words.specs.declared.named.Named.{Named}
use Rattle.base_words.specs.Bugs.{IsGoodBug}
use Rattle.control_grammar.specs.Commands.{and_read, read_bug, each_word, some_bugs, bug_and_others}
use Rattle.control_text.specs.Spelling.{bug_text}
use Rattle.control_text.proofs.SpacedLemmas.{ArePlain}
use Rattle.control_text.proofs.SpellingLemmas.{bug-back, bug-plain}

pub bugs_plain : (ns : List Named) → Each IsGoodBug ns → ArePlain (map bug_text ns)
bugs_plain [] good = tt
bugs_plain (n ∷ ns) good = (bug-plain n good.0, bugs_plain ns good.1)

-- what is written of good values is read as them, where that is so of each
pub each-back : {A : Type 0} (read : List ℕ → Result A Refusal) (text : A → List ℕ) (P : A → Type 0)
    → ((x : A) → P x → read (text x) ≡ Ok x) → (xs : List A) → Each P xs → each_word read (map text xs) ≡ Ok xs
each-back read text P each [] good = refl
each-back {A} read text P each (x ∷ xs) good =
    ap (λ r. and_read {B = List A} r (λ y. and_read (each_word read (map text xs)) (λ ys. Ok (y ∷ ys)))) (each x good.0)
    ∙ ap (λ r. and_read {B = List A} r (λ ys. Ok (x ∷ ys))) (each-back read text P each xs good.1)

pub some_bugs-back : (ns : List Named) → Each IsGoodBug ns → 0 < length ns → some_bugs (map bug_text ns) ≡ Ok ns
some_bugs-back [] good others = absurd (omega arith)
some_bugs-back (n ∷ ns) good others = each-back read_bug bug_text IsGoodBug bug-back (n ∷ ns) good

pub bugs-back : (n : Named) (ns : List Named) → Each IsGoodBug (n ∷ ns) → 0 < length ns
    → bug_and_others (bug_text n ∷ map bug_text ns) ≡ Ok (n, ns)
bugs-back n ns good others =
    ap (λ r. and_read {B = Named × List Named} r (λ bug. and_read (some_bugs (map bug_text ns)) (λ bugs. Ok (bug, bugs))))
    (bug-back n good.0)
    ∙ ap (λ r. and_read {B = Named × List Named} r (λ bugs. Ok (n, bugs))) (some_bugs-back ns good.1 others)
