-- Blockers, as they are written, are read as they are.
use Rattle.std.proofs.Common.{◌≡◌, ◌<◌, true, false, List, [], ◌∷◌, length, map, Result, Ok, Err, codes, ℕ, refl, ap, ◌∙◌}
use Rattle.std.specs.List.{list_any}
use Rattle.std.proofs.lemmas.Bool.{cond-true}
use Rattle.bug_record.specs.Sets.{Each}
use Rattle.bug_record.specs.declared.command.Refusal.{Refusal}
use Rattle.bug_record.specs.declared.command.Refusal.TheVariants.{Malformed}
use Rattle.base_words.specs.declared.named.Named.{Named}
use Rattle.base_words.specs.declared.named.Named.TheVariants.{Number, Name}
use Rattle.base_words.specs.Bugs.{IsGoodBug}
use Rattle.base_words.specs.Words.{is_blank_or_comma, words, words_with_commas, first_word, after_word}
use Rattle.control_grammar.specs.Commands.{and_read, read_bug, some_bugs, is_by, by_bugs, bug_by_bugs}
use Rattle.control_text.specs.Spelling.{bug_text}
use Rattle.control_text.specs.Spaces.{after_spaces}
use Rattle.control_text.proofs.PlainWords.{IsPlainWord, decimal-whole}
use Rattle.control_text.proofs.SpacedLemmas.{first_word-is, ArePlain, AreWhole, words-space, after_word-spaces, commas-spaces}
use Rattle.control_text.proofs.SpellingLemmas.{bug-back, bug-plain}
use Rattle.control_text.proofs.MergeSpelling.{bugs_plain, some_bugs-back}

bug-whole : (n : Named) → IsGoodBug n → list_any is_blank_or_comma (bug_text n) ≡ false
bug-whole (Number n) good = decimal-whole n good.most
bug-whole (Name k) good = decimal-whole k good.most

bugs_whole : (ns : List Named) → Each IsGoodBug ns → AreWhole (map bug_text ns)
bugs_whole [] good = tt
bugs_whole (n ∷ ns) good = (bug-plain n good.0, bug-whole n good.0, bugs_whole ns good.1)

by_plain : IsPlainWord (codes "by")
by_plain = record { some = refl; graphic = refl }

by_bugs-back : (ns : List Named) → Each IsGoodBug ns → 0 < length ns
    → by_bugs (after_spaces (codes "by" ∷ map bug_text ns)) ≡ Ok ns
by_bugs-back ns good others =
    let ws = map bug_text ns in
    let text = after_spaces (codes "by" ∷ ws) in
    let is : is_by (first_word text) ≡ true =
    ap is_by (first_word-is text (codes "by") (words (after_spaces ws)) (words-space (codes "by") ws by_plain)) in
    cond-true (is_by (first_word text)) (some_bugs (words_with_commas (after_word text))) (Err Malformed) is
    ∙ ap (λ s. some_bugs (words_with_commas s)) (after_word-spaces (codes "by") ws by_plain)
    ∙ ap some_bugs (commas-spaces ws (bugs_whole ns good))
    ∙ some_bugs-back ns good others

pub blockers_plain : (n : Named) (ns : List Named) → Each IsGoodBug (n ∷ ns)
    → ArePlain (bug_text n ∷ codes "by" ∷ map bug_text ns)
blockers_plain n ns good = (bug-plain n good.0, (by_plain, bugs_plain ns good.1))

pub bug_by_bugs-back : (n : Named) (ns : List Named) → Each IsGoodBug (n ∷ ns) → 0 < length ns
    → bug_by_bugs (after_spaces (bug_text n ∷ codes "by" ∷ map bug_text ns)) ≡ Ok (n, ns)
bug_by_bugs-back n ns good others =
    let word = bug-plain n good.0 in
    let ws = codes "by" ∷ map bug_text ns in
    let arguments = after_spaces (bug_text n ∷ ws) in
    let of_rest : List ℕ → Named → Result (Named × List Named) Refusal =
    λ rest bug. and_read (by_bugs rest) (λ bugs. Ok (bug, bugs)) in
    ap (λ w. and_read (read_bug w) (of_rest (after_word arguments)))
    (first_word-is arguments (bug_text n) (words (after_spaces ws)) (words-space (bug_text n) ws word))
    ∙ ap (λ r. and_read r (of_rest (after_word arguments))) (bug-back n good.0)
    ∙ ap (λ s. of_rest s n) (after_word-spaces (bug_text n) ws word)
    ∙ ap (λ r. and_read {B = Named × List Named} r (λ bugs. Ok (n, bugs))) (by_bugs-back ns good.1 others)
