-- Names that are given, as they are written, are read as they are.
use Rattle.std.proofs.Common.{◌≡◌, ℕ, ◌<◌, List, [], ◌∷◌, length, map, Ok, ap, ◌∙◌, arith}
use Rattle.std.specs.Option.{ok_or}
use Rattle.bug_record.specs.Sets.{Each}
use Rattle.bug_record.specs.declared.command.Refusal.TheVariants.{Malformed}
use Rattle.base_words.specs.declared.named.Named.{Named}
use Rattle.base_words.specs.declared.named.Named.TheVariants.{Name}
use Rattle.base_words.specs.Numbers.{IsGoodNumber}
use Rattle.base_words.specs.Bugs.{name_of_bug, IsGoodBug}
use Rattle.control_grammar.specs.Commands.{and_read, read_name, some_names, bug_and_names}
use Rattle.control_text.specs.Spelling.{name_text, bug_text}
use Rattle.control_text.proofs.SpacedLemmas.{ArePlain}
use Rattle.control_text.proofs.SpellingLemmas.{bug_word-back, bug-back, bug-plain}
use Rattle.control_text.proofs.MergeSpelling.{each-back}

names_plain : (ks : List ℕ) → Each IsGoodNumber ks → ArePlain (map name_text ks)
names_plain [] good = tt
names_plain (k ∷ ks) good = (bug-plain (Name k) good.0, names_plain ks good.1)

pub clone_plain : (n : Named) (ks : List ℕ) → IsGoodBug n → Each IsGoodNumber ks → ArePlain (bug_text n ∷ map name_text ks)
clone_plain n ks good names = (bug-plain n good, names_plain ks names)

name-back : (k : ℕ) → IsGoodNumber k → read_name (name_text k) ≡ Ok k
name-back k good = ap (λ bug. ok_or (name_of_bug bug) Malformed) (bug_word-back (Name k) good)

some_names-back : (ks : List ℕ) → Each IsGoodNumber ks → 0 < length ks → some_names (map name_text ks) ≡ Ok ks
some_names-back [] good some = absurd (omega arith)
some_names-back (k ∷ ks) good some = each-back read_name name_text IsGoodNumber name-back (k ∷ ks) good

pub clone-back : (n : Named) (ks : List ℕ) → IsGoodBug n → Each IsGoodNumber ks → 0 < length ks
    → bug_and_names (bug_text n ∷ map name_text ks) ≡ Ok (n, ks)
clone-back n ks good names some =
    ap (λ r. and_read {B = Named × List ℕ} r (λ bug. and_read (some_names (map name_text ks)) (λ more. Ok (bug, more))))
    (bug-back n good)
    ∙ ap (λ r. and_read {B = Named × List ℕ} r (λ more. Ok (n, more))) (some_names-back ks names some)
