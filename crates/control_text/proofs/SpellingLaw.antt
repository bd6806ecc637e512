-- Each command's spelling is read as it.
use Rattle.std.proofs.Common.{◌≡◌, ℕ, ◌<◌, List, [], ◌∷◌, ◌++◌, length, map, Option, Some, None, Result, Ok, codes, refl, ap, ◌∙◌}
use Rattle.std.proofs.Common.{append-nil}
use Rattle.debver.specs.Names.{IsName}
use Rattle.std.specs.Option.{ok_or}
use Rattle.bug_record.specs.Sets.{Each}
use Rattle.base_words.specs.Texts.{IsText, IfGiven}
use Rattle.bug_record.specs.Severities.{severity_name, severity_of}
use Rattle.bug_record.specs.Commands.{IsGoodVersion, IsGoodPerson}
use Rattle.bug_record.specs.declared.severity.Severity.{Severity}
use Rattle.bug_record.specs.declared.command.Command.{Command}
use Rattle.bug_record.specs.declared.command.Command.TheVariants as commands
use Rattle.bug_record.specs.declared.command.VersionArg.{VersionArg}
use Rattle.bug_record.specs.declared.command.Who.{Who}
use Rattle.bug_record.specs.declared.command.Refusal.{Refusal}
use Rattle.bug_record.specs.declared.command.Refusal.TheVariants.{BadSeverity}
use Rattle.base_words.specs.declared.named.Named.{Named}
use Rattle.control_grammar.specs.declared.command_word.CommandWord.{CommandWord}
use Rattle.control_grammar.specs.declared.command_word.CommandWord.TheVariants as command_words
use Rattle.control_grammar.specs.declared.line.Line.TheVariants.{Do}
use Rattle.base_words.specs.Bugs.{IsGoodBug}
use Rattle.base_words.specs.Words.{words, trimmed, after_word}
use Rattle.control_grammar.specs.Commands.{and_read, read_version, read_package, bug_alone, bug_and_version}
use Rattle.control_grammar.specs.Commands.{bug_and_optional_version, severity_command, reassign_command, optional_who}
use Rattle.control_grammar.specs.Commands.{bug_and_some_text, bug_and_some_who, bug_and_others, bug_and_names, bug_by_bugs}
use Rattle.control_grammar.specs.Commands.{reopen_command, command_of}
use Rattle.control_grammar.specs.Lines.{reading}
use Rattle.control_grammar.specs.WellFormed.{IsPlain, IsAddress, IsWellFormed}
use Rattle.control_text.specs.Spelling.{name_text, bug_text, version_text, who_text, step_words, word_if, spelling, spelled_words, affects_sign}
use Rattle.control_text.specs.Spelling.{joined_by_blanks}
use Rattle.control_text.specs.Spaces.{after_spaces}
use Rattle.control_parser.proofs.TextLemmas.{text_parts}
use Rattle.control_text.proofs.PlainWords.{graphic-control, name-plain}
use Rattle.control_text.proofs.SpacedLemmas.{IsCommandWord, reading-command, ArePlain, AreClean, plain_clean, clean-spaces}
use Rattle.control_text.proofs.SpacedLemmas.{ends-after_spaces, words-space, words-spaces, after_word-spaces, trimmed-space}
use Rattle.control_text.proofs.SpacedLemmas.{joined_spaces}
use Rattle.control_text.proofs.TextSpelling.{written_who, written_address, bug_and_text-back, bug_and_some_text-back}
use Rattle.control_text.proofs.TextSpelling.{bug_and_some_who-back}
use Rattle.control_text.proofs.MergeSpelling.{bugs_plain, bugs-back}
use Rattle.control_text.proofs.CloneSpelling.{clone_plain, clone-back}
use Rattle.control_text.proofs.BlockSpelling.{blockers_plain, bug_by_bugs-back}
use Rattle.control_text.proofs.StepSpelling.{steps_plain, tags-back}
use Rattle.control_text.proofs.AffectsSpelling.{affects_plain, affects-back}
use Rattle.control_text.proofs.SpellingLemmas.{bug-back, bug-plain, version-back, version_text-plain, package-back, severity-back}
use Rattle.control_text.proofs.SpellingLemmas.{severity-plain}

-- a command whose arguments are plain words is read by these words
by_words : (command : CommandWord) (w : List ℕ) (ws : List (List ℕ)) (c : Command Named) → IsCommandWord command w → ArePlain ws
    → command_of command (after_spaces ws) ≡ Ok c → reading (w ++ after_spaces ws) ≡ Ok (Do c)
by_words command w ws c h plain is =
    reading-command command w (after_spaces ws) c h (ends-after_spaces ws) (clean-spaces ws (plain_clean ws plain)) is

bug_and_version-back : (n : Named) (v : VersionArg) → IsGoodBug n → IsGoodVersion v
    → bug_and_version (words (after_spaces (bug_text n ∷ version_text v ∷ []))) ≡ Ok (n, v)
bug_and_version-back n v good fine =
    let both : VersionArg → Result (Named × VersionArg) Refusal = λ version. Ok (n, version) in
    ap bug_and_version (words-spaces (bug_text n ∷ version_text v ∷ []) (bug-plain n good, (version_text-plain v fine, tt)))
    ∙ ap (λ r. and_read {B = Named × VersionArg} r
    (λ bug. and_read (read_version (version_text v)) (λ version. Ok (bug, version)))) (bug-back n good)
    ∙ ap (λ r. and_read r both) (version-back v fine)

given_plain : (v : Option VersionArg) → IfGiven IsGoodVersion v → ArePlain (word_if version_text v)
given_plain None fine = tt
given_plain (Some v) fine = (version_text-plain v fine, tt)

optional_version_words-back : (n : Named) (v : Option VersionArg) → IsGoodBug n → IfGiven IsGoodVersion v
    → bug_and_optional_version (bug_text n ∷ word_if version_text v) ≡ Ok (n, v)
optional_version_words-back n None good fine =
    ap (λ r. and_read {B = Named × Option VersionArg} r (λ bug. Ok (bug, None))) (bug-back n good)
optional_version_words-back n (Some v) good fine =
    ap (λ r. and_read {B = Named × Option VersionArg} r
    (λ bug. and_read (read_version (version_text v)) (λ version. Ok (bug, Some version)))) (bug-back n good)
    ∙ ap (λ r. and_read {B = Named × Option VersionArg} r (λ version. Ok (n, Some version))) (version-back v fine)

bug_and_optional_version-back : (n : Named) (v : Option VersionArg) → IsGoodBug n → IfGiven IsGoodVersion v
    → bug_and_optional_version (words (after_spaces (bug_text n ∷ word_if version_text v))) ≡ Ok (n, v)
bug_and_optional_version-back n v good fine =
    ap bug_and_optional_version (words-spaces (bug_text n ∷ word_if version_text v) (bug-plain n good, given_plain v fine))
    ∙ optional_version_words-back n v good fine

severity_command-back : (n : Named) (s : Severity) → IsGoodBug n
    → severity_command (words (after_spaces (bug_text n ∷ severity_name s ∷ []))) ≡ Ok (commands.Severity n s)
severity_command-back n s good =
    ap severity_command (words-spaces (bug_text n ∷ severity_name s ∷ []) (bug-plain n good, (severity-plain s, tt)))
    ∙ ap (λ r. and_read {B = Command Named} r
    (λ bug. and_read (ok_or (severity_of (severity_name s)) BadSeverity) (λ severity. Ok (commands.Severity bug severity))))
    (bug-back n good)
    ∙ ap (λ o. and_read {B = Command Named} (ok_or o BadSeverity) (λ severity. Ok (commands.Severity n severity)))
    (severity-back s)

reassign_words-back : (n : Named) (p : List ℕ) (v : Option VersionArg) → IsGoodBug n → IsName p → IfGiven IsGoodVersion v
    → reassign_command (bug_text n ∷ p ∷ word_if version_text v) ≡ Ok (commands.Reassign n p v)
reassign_words-back n p None good name fine =
    ap (λ r. and_read {B = Command Named} r (λ bug. and_read (read_package p) (λ q. Ok (commands.Reassign bug q None))))
    (bug-back n good)
    ∙ ap (λ r. and_read {B = Command Named} r (λ q. Ok (commands.Reassign n q None))) (package-back p name)
reassign_words-back n p (Some v) good name fine =
    ap (λ r. and_read {B = Command Named} r
    (λ bug. and_read (read_package p)
    (λ q. and_read (read_version (version_text v)) (λ version. Ok (commands.Reassign bug q (Some version))))))
    (bug-back n good)
    ∙ ap (λ r. and_read {B = Command Named} r
    (λ q. and_read (read_version (version_text v)) (λ version. Ok (commands.Reassign n q (Some version)))))
    (package-back p name)
    ∙ ap (λ r. and_read {B = Command Named} r (λ version. Ok (commands.Reassign n p (Some version)))) (version-back v fine)

reassign_plain : (n : Named) (p : List ℕ) (v : Option VersionArg) → IsGoodBug n → IsName p → IfGiven IsGoodVersion v
    → ArePlain (bug_text n ∷ p ∷ word_if version_text v)
reassign_plain n p v good name fine = (bug-plain n good, (name-plain p name, given_plain v fine))

-- who is to be the submitter
reopen_text-back : (n : Named) (ws : List (List ℕ)) (text : List ℕ) (who : Option Who) → IsGoodBug n
    → trimmed (after_spaces ws) ≡ text → optional_who text ≡ Ok who
    → reopen_command (after_spaces (bug_text n ∷ ws)) ≡ Ok (commands.Reopen n who)
reopen_text-back n ws text who good is read =
    let word = bug-plain n good in
    let arguments = after_spaces (bug_text n ∷ ws) in
    let rest : trimmed (after_word arguments) ≡ text = ap trimmed (after_word-spaces (bug_text n) ws word) ∙ is in
    let command : Named × List ℕ → Result (Command Named) Refusal =
    λ both. and_read (optional_who both.1) (λ w. Ok (commands.Reopen both.0 w)) in
    ap (λ r. and_read r command)
    (bug_and_text-back arguments (bug_text n) (words (after_spaces ws)) n (words-space (bug_text n) ws word)
    (bug-back n good))
    ∙ ap (λ t. command (n, t)) rest
    ∙ ap (λ r. and_read r (λ w. Ok (commands.Reopen n w))) read

reopen_back : (n : Named) (who : Option Who) → IsGoodBug n → IfGiven IsGoodPerson who → IsPlain who
    → reopen_command (after_spaces (bug_text n ∷ word_if who_text who)) ≡ Ok (commands.Reopen n who)
reopen_back n None good person plain = reopen_text-back n [] [] None good refl refl
reopen_back n (Some who) good person plain =
    let written = written_who who person plain in
    reopen_text-back n (who_text who ∷ []) (who_text who) (Some who) good
    (trimmed-space (who_text who ++ []) ∙ ap trimmed (append-nil (who_text who)) ∙ written.trim) written.back

reopen_clean : (n : Named) (who : Option Who) → IsGoodBug n → IfGiven IsGoodPerson who → IsPlain who
    → AreClean (bug_text n ∷ word_if who_text who)
reopen_clean n None good person plain = let word = bug-plain n good in (graphic-control (bug_text n) word.graphic, tt)
reopen_clean n (Some who) good person plain =
    let word = bug-plain n good in
    let written = written_who who person plain in
    (graphic-control (bug_text n) word.graphic, (written.clean, tt))

-- the commands' own words
found_word : IsCommandWord command_words.Found (codes "found")
found_word = record { some = refl; whole = refl; clean = refl; hash = refl; stop = refl; thank = refl; is = refl }

notfound_word : IsCommandWord command_words.NotFound (codes "notfound")
notfound_word = record { some = refl; whole = refl; clean = refl; hash = refl; stop = refl; thank = refl; is = refl }

fixed_word : IsCommandWord command_words.Fixed (codes "fixed")
fixed_word = record { some = refl; whole = refl; clean = refl; hash = refl; stop = refl; thank = refl; is = refl }

notfixed_word : IsCommandWord command_words.NotFixed (codes "notfixed")
notfixed_word = record { some = refl; whole = refl; clean = refl; hash = refl; stop = refl; thank = refl; is = refl }

close_word : IsCommandWord command_words.Close (codes "close")
close_word = record { some = refl; whole = refl; clean = refl; hash = refl; stop = refl; thank = refl; is = refl }

reopen_word : IsCommandWord command_words.Reopen (codes "reopen")
reopen_word = record { some = refl; whole = refl; clean = refl; hash = refl; stop = refl; thank = refl; is = refl }

severity_word : IsCommandWord command_words.Severity (codes "severity")
severity_word = record { some = refl; whole = refl; clean = refl; hash = refl; stop = refl; thank = refl; is = refl }

reassign_word : IsCommandWord command_words.Reassign (codes "reassign")
reassign_word = record { some = refl; whole = refl; clean = refl; hash = refl; stop = refl; thank = refl; is = refl }

tags_word : IsCommandWord command_words.Tags (codes "tags")
tags_word = record { some = refl; whole = refl; clean = refl; hash = refl; stop = refl; thank = refl; is = refl }

retitle_word : IsCommandWord command_words.Retitle (codes "retitle")
retitle_word = record { some = refl; whole = refl; clean = refl; hash = refl; stop = refl; thank = refl; is = refl }

submitter_word : IsCommandWord command_words.Submitter (codes "submitter")
submitter_word = record { some = refl; whole = refl; clean = refl; hash = refl; stop = refl; thank = refl; is = refl }

merge_word : IsCommandWord command_words.Merge (codes "merge")
merge_word = record { some = refl; whole = refl; clean = refl; hash = refl; stop = refl; thank = refl; is = refl }

forcemerge_word : IsCommandWord command_words.ForceMerge (codes "forcemerge")
forcemerge_word = record { some = refl; whole = refl; clean = refl; hash = refl; stop = refl; thank = refl; is = refl }

unmerge_word : IsCommandWord command_words.Unmerge (codes "unmerge")
unmerge_word = record { some = refl; whole = refl; clean = refl; hash = refl; stop = refl; thank = refl; is = refl }

clone_word : IsCommandWord command_words.Clone (codes "clone")
clone_word = record { some = refl; whole = refl; clean = refl; hash = refl; stop = refl; thank = refl; is = refl }

block_word : IsCommandWord command_words.Block (codes "block")
block_word = record { some = refl; whole = refl; clean = refl; hash = refl; stop = refl; thank = refl; is = refl }

unblock_word : IsCommandWord command_words.Unblock (codes "unblock")
unblock_word = record { some = refl; whole = refl; clean = refl; hash = refl; stop = refl; thank = refl; is = refl }

forwarded_word : IsCommandWord command_words.Forwarded (codes "forwarded")
forwarded_word = record { some = refl; whole = refl; clean = refl; hash = refl; stop = refl; thank = refl; is = refl }

notforwarded_word : IsCommandWord command_words.NotForwarded (codes "notforwarded")
notforwarded_word = record { some = refl; whole = refl; clean = refl; hash = refl; stop = refl; thank = refl; is = refl }

owner_word : IsCommandWord command_words.Owner (codes "owner")
owner_word = record { some = refl; whole = refl; clean = refl; hash = refl; stop = refl; thank = refl; is = refl }

noowner_word : IsCommandWord command_words.NoOwner (codes "noowner")
noowner_word = record { some = refl; whole = refl; clean = refl; hash = refl; stop = refl; thank = refl; is = refl }

archive_word : IsCommandWord command_words.Archive (codes "archive")
archive_word = record { some = refl; whole = refl; clean = refl; hash = refl; stop = refl; thank = refl; is = refl }

unarchive_word : IsCommandWord command_words.Unarchive (codes "unarchive")
unarchive_word = record { some = refl; whole = refl; clean = refl; hash = refl; stop = refl; thank = refl; is = refl }

affects_word : IsCommandWord command_words.Affects (codes "affects")
affects_word = record { some = refl; whole = refl; clean = refl; hash = refl; stop = refl; thank = refl; is = refl }

-- a bug and a version, or perhaps a version
by_version : (command : CommandWord) (w : List ℕ) (make : Named → VersionArg → Command Named) (n : Named) (v : VersionArg)
    → IsCommandWord command w
    → ((s : List ℕ) → command_of command s ≡ and_read (bug_and_version (words s)) (λ both. Ok (make both.0 both.1))) → IsGoodBug n
    → IsGoodVersion v → reading (w ++ after_spaces (bug_text n ∷ version_text v ∷ [])) ≡ Ok (Do (make n v))
by_version command w make n v h means good fine =
    let made : Named × VersionArg → Result (Command Named) Refusal = λ both. Ok (make both.0 both.1) in
    let ws = bug_text n ∷ version_text v ∷ [] in
    by_words command w ws (make n v) h (bug-plain n good, (version_text-plain v fine, tt))
    (means (after_spaces ws) ∙ ap (λ r. and_read r made) (bug_and_version-back n v good fine))

by_optional_version : (command : CommandWord) (w : List ℕ) (make : Named → Option VersionArg → Command Named) (n : Named)
    (v : Option VersionArg) → IsCommandWord command w
    → ((s : List ℕ) → command_of command s ≡ and_read (bug_and_optional_version (words s)) (λ both. Ok (make both.0 both.1)))
    → IsGoodBug n → IfGiven IsGoodVersion v
    → reading (w ++ after_spaces (bug_text n ∷ word_if version_text v)) ≡ Ok (Do (make n v))
by_optional_version command w make n v h means good fine =
    let made : Named × Option VersionArg → Result (Command Named) Refusal = λ both. Ok (make both.0 both.1) in
    let ws = bug_text n ∷ word_if version_text v in
    by_words command w ws (make n v) h (bug-plain n good, given_plain v fine)
    (means (after_spaces ws) ∙ ap (λ r. and_read r made) (bug_and_optional_version-back n v good fine))

-- a bug alone, two bugs or more, a bug and its blockers, a bug and a text, and a bug and somebody
by_bug : (command : CommandWord) (w : List ℕ) (make : Named → Command Named) (n : Named) → IsCommandWord command w
    → ((s : List ℕ) → command_of command s ≡ and_read (bug_alone (words s)) (λ bug. Ok (make bug))) → IsGoodBug n
    → reading (w ++ after_spaces (bug_text n ∷ [])) ≡ Ok (Do (make n))
by_bug command w make n h means good =
    let ws = bug_text n ∷ [] in
    let plain : ArePlain ws = (bug-plain n good, tt) in
    by_words command w ws (make n) h plain
    (means (after_spaces ws)
    ∙ ap (λ r. and_read {B = Command Named} r (λ bug. Ok (make bug)))
    (ap bug_alone (words-spaces ws plain) ∙ bug-back n good))

by_bugs : (command : CommandWord) (w : List ℕ) (make : Named → List Named → Command Named) (n : Named) (ns : List Named)
    → IsCommandWord command w
    → ((s : List ℕ) → command_of command s ≡ and_read (bug_and_others (words s)) (λ both. Ok (make both.0 both.1)))
    → Each IsGoodBug (n ∷ ns) → 0 < length ns → reading (w ++ after_spaces (bug_text n ∷ map bug_text ns)) ≡ Ok (Do (make n ns))
by_bugs command w make n ns h means good others =
    let made : Named × List Named → Result (Command Named) Refusal = λ both. Ok (make both.0 both.1) in
    let ws = bug_text n ∷ map bug_text ns in
    let plain : ArePlain ws = bugs_plain (n ∷ ns) good in
    by_words command w ws (make n ns) h plain
    (means (after_spaces ws) ∙ ap (λ r. and_read r made) (ap bug_and_others (words-spaces ws plain) ∙ bugs-back n ns good others))

by_blockers : (command : CommandWord) (w : List ℕ) (make : Named → List Named → Command Named) (n : Named) (ns : List Named)
    → IsCommandWord command w
    → ((s : List ℕ) → command_of command s ≡ and_read (bug_by_bugs s) (λ both. Ok (make both.0 both.1)))
    → Each IsGoodBug (n ∷ ns) → 0 < length ns
    → reading (w ++ after_spaces (bug_text n ∷ codes "by" ∷ map bug_text ns)) ≡ Ok (Do (make n ns))
by_blockers command w make n ns h means good others =
    let made : Named × List Named → Result (Command Named) Refusal = λ both. Ok (make both.0 both.1) in
    let ws = bug_text n ∷ codes "by" ∷ map bug_text ns in
    by_words command w ws (make n ns) h (blockers_plain n ns good)
    (means (after_spaces ws) ∙ ap (λ r. and_read r made) (bug_by_bugs-back n ns good others))

by_text : (command : CommandWord) (w : List ℕ) (make : Named → List ℕ → Command Named) (n : Named) (text : List ℕ)
    → IsCommandWord command w
    → ((s : List ℕ) → command_of command s ≡ and_read (bug_and_some_text s) (λ both. Ok (make both.0 both.1))) → IsGoodBug n
    → IsText text → reading (w ++ after_spaces (bug_text n ∷ text ∷ [])) ≡ Ok (Do (make n text))
by_text command w make n text h means good fine =
    let made : Named × List ℕ → Result (Command Named) Refusal = λ both. Ok (make both.0 both.1) in
    let ws = bug_text n ∷ text ∷ [] in
    let word = bug-plain n good in
    let parts = text_parts text fine in
    reading-command command w (after_spaces ws) (make n text) h (ends-after_spaces ws)
    (clean-spaces ws (graphic-control (bug_text n) word.graphic, (parts.clean, tt)))
    (means (after_spaces ws) ∙ ap (λ r. and_read r made) (bug_and_some_text-back n text good fine))

by_who : (command : CommandWord) (w : List ℕ) (make : Named → Who → Command Named) (n : Named) (who : Who)
    → IsCommandWord command w
    → ((s : List ℕ) → command_of command s ≡ and_read (bug_and_some_who s) (λ both. Ok (make both.0 both.1))) → IsGoodBug n
    → IsGoodPerson who → IsAddress who → reading (w ++ after_spaces (bug_text n ∷ who_text who ∷ [])) ≡ Ok (Do (make n who))
by_who command w make n who h means good person address =
    let made : Named × Who → Result (Command Named) Refusal = λ both. Ok (make both.0 both.1) in
    let ws = bug_text n ∷ who_text who ∷ [] in
    let word = bug-plain n good in
    let written = written_address who person address in
    reading-command command w (after_spaces ws) (make n who) h (ends-after_spaces ws)
    (clean-spaces ws (graphic-control (bug_text n) word.graphic, (written.clean, tt)))
    (means (after_spaces ws) ∙ ap (λ r. and_read r made) (bug_and_some_who-back n who good person address))

-- the first of words, and the others after spaces
abbrev spaced : List (List ℕ) → List ℕ
spaced [] = []
spaced (word ∷ more) = word ++ after_spaces more

joined-spaced : (words : List (List ℕ)) → joined_by_blanks words ≡ spaced words
joined-spaced [] = refl
joined-spaced (word ∷ more) = joined_spaces word more

spaced-read : (c : Command Named) → IsWellFormed c → reading (spaced (spelled_words c)) ≡ Ok (Do c)
spaced-read (commands.Found n v) good =
    by_optional_version command_words.Found (codes "found") commands.Found n v found_word (λ s. refl) good.bugs.0 good.parts
spaced-read (commands.NotFound n v) good =
    by_version command_words.NotFound (codes "notfound") commands.NotFound n v notfound_word (λ s. refl) good.bugs.0 good.parts
spaced-read (commands.Fixed n v) good =
    by_version command_words.Fixed (codes "fixed") commands.Fixed n v fixed_word (λ s. refl) good.bugs.0 good.parts
spaced-read (commands.NotFixed n v) good =
    by_version command_words.NotFixed (codes "notfixed") commands.NotFixed n v notfixed_word (λ s. refl) good.bugs.0 good.parts
spaced-read (commands.Close n v) good =
    by_optional_version command_words.Close (codes "close") commands.Close n v close_word (λ s. refl) good.bugs.0 good.parts
spaced-read (commands.Reopen n who) good =
    let ws = bug_text n ∷ word_if who_text who in
    reading-command command_words.Reopen (codes "reopen") (after_spaces ws) (commands.Reopen n who) reopen_word
    (ends-after_spaces ws)
    (clean-spaces ws (reopen_clean n who good.bugs.0 good.parts good.spellable))
    (reopen_back n who good.bugs.0 good.parts good.spellable)
spaced-read (commands.Severity n s) good =
    by_words command_words.Severity (codes "severity") (bug_text n ∷ severity_name s ∷ []) (commands.Severity n s) severity_word
    (bug-plain n good.bugs.0, (severity-plain s, tt)) (severity_command-back n s good.bugs.0)
spaced-read (commands.Reassign n p v) good =
    let ws = bug_text n ∷ p ∷ word_if version_text v in
    let plain = reassign_plain n p v good.bugs.0 good.parts.0 good.parts.1 in
    by_words command_words.Reassign (codes "reassign") ws (commands.Reassign n p v) reassign_word plain
    (ap reassign_command (words-spaces ws plain) ∙ reassign_words-back n p v good.bugs.0 good.parts.0 good.parts.1)
spaced-read (commands.Tags n steps) good =
    let ws = bug_text n ∷ step_words steps in
    by_words command_words.Tags (codes "tags") ws (commands.Tags n steps) tags_word (bug-plain n good.bugs.0, steps_plain steps)
    (tags-back n steps good.bugs.0)
spaced-read (commands.Retitle n text) good =
    by_text command_words.Retitle (codes "retitle") commands.Retitle n text retitle_word (λ s. refl) good.bugs.0 good.parts
spaced-read (commands.Submitter n who) good =
    by_who command_words.Submitter (codes "submitter") commands.Submitter n who submitter_word (λ s. refl) good.bugs.0 good.parts
    good.spellable
spaced-read (commands.Merge n ns) good =
    by_bugs command_words.Merge (codes "merge") commands.Merge n ns merge_word (λ s. refl) good.bugs good.spellable
spaced-read (commands.ForceMerge n ns) good =
    by_bugs command_words.ForceMerge (codes "forcemerge") commands.ForceMerge n ns forcemerge_word (λ s. refl) good.bugs
    good.spellable
spaced-read (commands.Unmerge n) good =
    by_bug command_words.Unmerge (codes "unmerge") commands.Unmerge n unmerge_word (λ s. refl) good.bugs.0
spaced-read (commands.Clone n ks) good =
    let ws = bug_text n ∷ map name_text ks in
    let made : Named × List ℕ → Result (Command Named) Refusal = λ both. Ok (commands.Clone both.0 both.1) in
    let names = good.spellable in
    let plain = clone_plain n ks good.bugs.0 names.0 in
    by_words command_words.Clone (codes "clone") ws (commands.Clone n ks) clone_word plain
    (ap (λ r. and_read r made) (ap bug_and_names (words-spaces ws plain) ∙ clone-back n ks good.bugs.0 names.0 names.1))
spaced-read (commands.Block n ns) good =
    by_blockers command_words.Block (codes "block") commands.Block n ns block_word (λ s. refl) good.bugs good.spellable
spaced-read (commands.Unblock n ns) good =
    by_blockers command_words.Unblock (codes "unblock") commands.Unblock n ns unblock_word (λ s. refl) good.bugs good.spellable
spaced-read (commands.Forwarded n text) good =
    by_text command_words.Forwarded (codes "forwarded") commands.Forwarded n text forwarded_word (λ s. refl) good.bugs.0
    good.parts
spaced-read (commands.NotForwarded n) good =
    by_bug command_words.NotForwarded (codes "notforwarded") commands.NotForwarded n notforwarded_word (λ s. refl) good.bugs.0
spaced-read (commands.Owner n who) good =
    by_who command_words.Owner (codes "owner") commands.Owner n who owner_word (λ s. refl) good.bugs.0 good.parts good.spellable
spaced-read (commands.NoOwner n) good =
    by_bug command_words.NoOwner (codes "noowner") commands.NoOwner n noowner_word (λ s. refl) good.bugs.0
spaced-read (commands.Archive n) good =
    by_bug command_words.Archive (codes "archive") commands.Archive n archive_word (λ s. refl) good.bugs.0
spaced-read (commands.Unarchive n) good =
    by_bug command_words.Unarchive (codes "unarchive") commands.Unarchive n unarchive_word (λ s. refl) good.bugs.0
spaced-read (commands.Affects n step names) good =
    by_words command_words.Affects (codes "affects") (bug_text n ∷ affects_sign step ∷ names) (commands.Affects n step names)
    affects_word (affects_plain n step names good.bugs.0 good.parts)
    (affects-back n step names good.bugs.0 good.parts good.spellable)

pub spelling-read : (c : Command Named) → IsWellFormed c → reading (spelling c) ≡ Ok (Do c)
unfolding spelling
spelling-read c good = ap reading (joined-spaced (spelled_words c)) ∙ spaced-read c good
