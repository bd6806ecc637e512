-- What a line gives is well formed.
use Rattle.std.proofs.Common.{◌≡◌, ◌<◌, ℕ, ◌≤◌, List, [], ◌∷◌, length, ◌&&◌, nat_lt, true, false, Option, Result, Some}
use Rattle.std.proofs.Common.{None, Ok, Err, refl, cond, sym, ◌∙◌, subst, arith, codes}
use Rattle.std.specs.Prelude.{IfOk, IfSome, is_none, ⊤}
use Rattle.std.specs.Option.{ok_or}
use Rattle.std.specs.List.{list_any, before_first, after_first, prefix_len, position_or_len}
use Rattle.std.specs.Str.{bytes_eq}
use Rattle.std.proofs.lemmas.Bool.{cond_both, ltb-false, false≢true}
use Rattle.std.proofs.lemmas.Slice.Eq.{bytes_eq-Decides}
use Rattle.debver.specs.Names.{IsName, name_fault}
use Rattle.debver.specs.Cut.{IsVersion}
use Rattle.debver.specs.Faults.{text_fault}
use Rattle.version_nodes.specs.Nodes.{node, is_slash, node_of}
use Rattle.version_nodes.proofs.ReadLemmas.{nodes_exactly}
use Rattle.base_words.specs.Blanks.{is_blank, is_control}
use Rattle.bug_record.specs.Sets.{Each}
use Rattle.base_words.specs.Texts.{IsText, IfGiven}
use Rattle.bug_record.specs.Severities.{severity_of}
use Rattle.bug_record.specs.Commands.{IsGoodVersion, IsGoodPerson}
use Rattle.bug_record.specs.declared.severity.Severity.{Severity}
use Rattle.bug_record.specs.declared.command.Command.{Command}
use Rattle.bug_record.specs.declared.command.Command.TheVariants as commands
use Rattle.bug_record.specs.declared.command.TagStep.{TagStep}
use Rattle.bug_record.specs.declared.command.Who.{Who}
use Rattle.bug_record.specs.declared.command.Who.TheVariants.{Sender, Given}
use Rattle.bug_record.specs.declared.command.Refusal.{Refusal}
use Rattle.bug_record.specs.declared.command.Refusal.TheVariants.{TooLong, BadSeverity, BadVersion, BadPackage}
use Rattle.base_words.specs.declared.named.Named.{Named}
use Rattle.control_grammar.specs.declared.command_word.CommandWord.{CommandWord}
use Rattle.control_grammar.specs.declared.command_word.CommandWord.TheVariants as command_words
use Rattle.base_words.specs.Bugs.{IsGoodBug}
use Rattle.base_words.specs.Words.{words, words_with_commas, trimmed, first_word, after_word, without_first}
use Rattle.control_grammar.specs.Versions.{bare_version, sourced_version, version_of_word, without_src, package_of_word}
use Rattle.control_grammar.specs.Commands.{and_read, read_bug, read_version, bug_and_version, bug_and_optional_version}
use Rattle.control_grammar.specs.Commands.{severity_command, read_package, reassign_command, limited_text, who_of_text, some_text}
use Rattle.control_grammar.specs.Commands.{some_who, optional_who, bug_and_text, bug_and_some_text, bug_and_some_who, bug_alone}
use Rattle.control_grammar.specs.Commands.{bug_and_names, bug_by_bugs, each_word, affects_step, are_given, sign_and_words}
use Rattle.control_grammar.specs.Commands.{affects_command}
use Rattle.control_grammar.specs.declared.signs.Sign.{Sign}
use Rattle.control_grammar.specs.declared.signs.Sign.TheVariants.{Plus, Minus, Equals}
use Rattle.bug_record.specs.declared.command.AffectsStep.{AffectsStep}
use Rattle.bug_record.specs.declared.command.AffectsStep.TheVariants as affecting
use Rattle.control_grammar.specs.Commands.{bug_and_others, some_steps, tags_command, reopen_command, command_of}
use Rattle.control_grammar.specs.WellFormed.{IsPlain, IsAddress, HasPackages, IsWellFormed}
use Rattle.control_parser.proofs.TextLemmas.{none-drop, trimmed-text}
use Rattle.control_parser.proofs.BugReading.{ok_or-good, and_read-good, read_bug-good, bug_alone-good, bug_and_others-good}
use Rattle.control_parser.proofs.BugReading.{bug_and_names-good, bug_by_bugs-good, each_word-good, some_words-good}

-- texts that give a node are a package name and a version
both_good : (s v : List ℕ) → (is_none (name_fault s) && is_none (text_fault v)) ≡ true → IsName s × IsVersion v
both_good s v e =
    let is : node_of s v ≡ Some (node s v) = subst (λ b. cond b (Some (node s v)) None ≡ Some (node s v)) (sym e) refl in
    let both = (nodes_exactly s v (node s v)).0 is in
    (both.1, both.2)

-- `a0` is a name, so that a text by itself is seen to be a version
pub version_good : (v : List ℕ) → is_none (text_fault v) ≡ true → IsVersion v
version_good v e = (both_good (codes "a0") v e).1

name_good : (s : List ℕ) → is_none (name_fault s) ≡ true → IsName s
name_good s e = (both_good s (codes "0") (subst (λ b. (b && true) ≡ true) (sym e) refl)).0

bare_version-good : (v : List ℕ) → IfSome (bare_version v) IsGoodVersion
bare_version-good v =
    cond_both (is_none (text_fault v)) (Some (record { source = None; version = v })) None (λ o. IfSome o IsGoodVersion)
    (λ e. record { source = tt; version = version_good v e }) (λ e. tt)

sourced_version-good : (s v : List ℕ) → IfSome (sourced_version s v) IsGoodVersion
sourced_version-good s v =
    cond_both (is_none (name_fault s) && is_none (text_fault v)) (Some (record { source = Some s; version = v })) None
    (λ o. IfSome o IsGoodVersion)
    (λ e. let both = both_good s v e in record { source = both.0; version = both.1 }) (λ e. tt)

read_version-good : (w : List ℕ) → IfOk (read_version w) IsGoodVersion
read_version-good w =
    let some : IfSome (version_of_word w) IsGoodVersion
    = cond_both (list_any is_slash w) (sourced_version (before_first is_slash w) (after_first is_slash w)) (bare_version w)
    (λ o. IfSome o IsGoodVersion)
    (λ e. sourced_version-good (before_first is_slash w) (after_first is_slash w)) (λ e. bare_version-good w) in
    ok_or-good (version_of_word w) BadVersion IsGoodVersion some

read_package-good : (w : List ℕ) → IfOk (read_package w) IsName
read_package-good w =
    let some : IfSome (package_of_word w) IsName
    = cond_both (is_none (name_fault (without_src w))) (Some (without_src w)) None (λ o. IfSome o IsName)
    (name_good (without_src w)) (λ e. tt) in
    ok_or-good (package_of_word w) BadPackage IsName some

bug_and_version-good : (ws : List (List ℕ)) → IfOk (bug_and_version ws) (λ both. IsGoodBug both.0 × IsGoodVersion both.1)
bug_and_version-good (n ∷ v ∷ []) =
    and_read-good (read_bug n) _ IsGoodBug (λ both. IsGoodBug both.0 × IsGoodVersion both.1) (read_bug-good n) (λ bug good.
    and_read-good (read_version v) (λ version. Ok (bug, version)) IsGoodVersion (λ both. IsGoodBug both.0 × IsGoodVersion both.1)
    (read_version-good v) (λ version fine. (good, fine)))
bug_and_version-good [] = tt
bug_and_version-good (n ∷ []) = tt
bug_and_version-good (n ∷ v ∷ w ∷ ws) = tt

bug_and_optional_version-good : (ws : List (List ℕ))
    → IfOk (bug_and_optional_version ws) (λ both. IsGoodBug both.0 × IfGiven IsGoodVersion both.1)
bug_and_optional_version-good (n ∷ []) =
    and_read-good (read_bug n) (λ bug. Ok (bug, None)) IsGoodBug (λ both. IsGoodBug both.0 × IfGiven IsGoodVersion both.1)
    (read_bug-good n) (λ bug good. (good, tt))
bug_and_optional_version-good [] = tt
bug_and_optional_version-good (n ∷ v ∷ []) =
    and_read-good (read_bug n) _ IsGoodBug (λ both. IsGoodBug both.0 × IfGiven IsGoodVersion both.1) (read_bug-good n)
    (λ bug good.
    and_read-good (read_version v) (λ version. Ok (bug, Some version)) IsGoodVersion
    (λ both. IsGoodBug both.0 × IfGiven IsGoodVersion both.1) (read_version-good v) (λ version fine. (good, fine)))
bug_and_optional_version-good (n ∷ v ∷ w ∷ ws) = tt

any_severity : (o : Option Severity) → IfSome o (λ _. ⊤)
any_severity None = tt
any_severity (Some severity) = tt

severity_command-good : (ws : List (List ℕ)) → IfOk (severity_command ws) IsWellFormed
severity_command-good (n ∷ s ∷ []) =
    and_read-good (read_bug n) _ IsGoodBug IsWellFormed (read_bug-good n) (λ bug good.
    and_read-good (ok_or (severity_of s) BadSeverity) (λ severity. Ok (commands.Severity bug severity)) (λ _. ⊤) IsWellFormed
    (ok_or-good (severity_of s) BadSeverity (λ _. ⊤) (any_severity (severity_of s))) (λ severity _.
    record { bugs = (good, tt); parts = tt; spellable = tt }))
severity_command-good [] = tt
severity_command-good (n ∷ []) = tt
severity_command-good (n ∷ s ∷ w ∷ ws) = tt

reassign_command-good : (ws : List (List ℕ)) → IfOk (reassign_command ws) IsWellFormed
reassign_command-good (n ∷ p ∷ []) =
    and_read-good (read_bug n) _ IsGoodBug IsWellFormed (read_bug-good n) (λ bug good.
    and_read-good (read_package p) (λ name. Ok (commands.Reassign bug name None)) IsName IsWellFormed (read_package-good p)
    (λ name named.
    record { bugs = (good, tt); parts = (named, tt); spellable = tt }))
reassign_command-good (n ∷ p ∷ v ∷ []) =
    and_read-good (read_bug n) _ IsGoodBug IsWellFormed (read_bug-good n) (λ bug good.
    and_read-good (read_package p) _ IsName IsWellFormed (read_package-good p) (λ name named.
    and_read-good (read_version v) (λ version. Ok (commands.Reassign bug name (Some version))) IsGoodVersion IsWellFormed
    (read_version-good v) (λ version fine.
    record { bugs = (good, tt); parts = (named, fine); spellable = tt })))
reassign_command-good [] = tt
reassign_command-good (n ∷ []) = tt
reassign_command-good (n ∷ p ∷ v ∷ w ∷ ws) = tt

-- somebody who can be written
abbrev IsGoodWho : Option Who → Type 0
IsGoodWho who = IfGiven IsGoodPerson who × IsPlain who

unequal : (s t : List ℕ) → bytes_eq s t ≡ false → ¬ (s ≡ t)
unequal s t e is = false≢true (sym e ∙ (bytes_eq-Decides s t).1 is)

-- a person who was given, of whose text something more is known
abbrev IsGoodGiven : (List ℕ → Type 0) → Who → Type 0
IsGoodGiven Q Sender = ⊤
IsGoodGiven Q (Given text) = IsText text × (¬ (text ≡ codes "!")) × Q text

limited-good : {A : Type 0} (text : List ℕ) (f : List ℕ → A) (Q : A → Type 0) → (length text ≤ 200 → Q (f text))
    → IfOk (and_read (limited_text text) (λ limited. Ok (f limited))) Q
limited-good {A} text f Q good =
    cond_both (nat_lt 200 (length text)) (Err TooLong) (Ok text) (λ r. IfOk (and_read {B = A} r (λ limited. Ok (f limited))) Q)
    (λ e. tt) (λ e. good (ltb-false 200 (length text) e))

who_of_text-good : (Q : List ℕ → Type 0) (text : List ℕ) → Q text → (length text ≤ 200 → IsText text)
    → IfOk (who_of_text text) (IsGoodGiven Q)
who_of_text-good Q text more good =
    cond_both (bytes_eq text (codes "!")) (Ok Sender) (and_read (limited_text text) (λ limited. Ok (Given limited)))
    (λ r. IfOk r (IsGoodGiven Q)) (λ e. tt) (λ e.
    limited-good text Given (IsGoodGiven Q) (λ short. (good short, unequal text (codes "!") e, more)))

plain_who : (who : Who) → IsGoodGiven (λ text. ¬ (text ≡ codes "=")) who → IsGoodWho (Some who)
plain_who Sender h = (tt, tt)
plain_who (Given text) h = (h.0, (h.1, h.2))

optional_who-good : (text : List ℕ) → (1 ≤ length text → length text ≤ 200 → IsText text) → IfOk (optional_who text) IsGoodWho
optional_who-good [] good = (tt, tt)
optional_who-good (c ∷ text) good =
    let Q : List ℕ → Type 0 = λ t. ¬ (t ≡ codes "=") in
    cond_both (bytes_eq (c ∷ text) (codes "=")) (Ok None) (and_read (who_of_text (c ∷ text)) (λ who. Ok (Some who)))
    (λ r. IfOk r IsGoodWho) (λ e. (tt, tt)) (λ e.
    and_read-good (who_of_text (c ∷ text)) (λ who. Ok (Some who)) (IsGoodGiven Q) IsGoodWho
    (who_of_text-good Q (c ∷ text) (unequal (c ∷ text) (codes "=") e) (good (omega arith))) plain_who)

pub clean_after_word : (text : List ℕ) → list_any is_control text ≡ false → list_any is_control (after_word text) ≡ false
clean_after_word text clean =
    let t = without_first is_blank text in
    none-drop is_control (position_or_len is_blank t) t (none-drop is_control (prefix_len is_blank text) text clean)

-- what follows a bug word is a text, where it has 1 to 200 bytes
abbrev IsTextWithin : List ℕ → Type 0
IsTextWithin text = 1 ≤ length text → length text ≤ 200 → IsText text

bug_and_text-good : (arguments : List ℕ) → list_any is_control arguments ≡ false
    → IfOk (bug_and_text arguments) (λ both. IsGoodBug both.0 × IsTextWithin both.1)
bug_and_text-good arguments clean =
    let text = trimmed (after_word arguments) in
    let good : IsTextWithin text =
    λ least most. trimmed-text (after_word arguments) least most (clean_after_word arguments clean) in
    let of_bug : Named → Result (Named × List ℕ) Refusal = λ bug. Ok (bug, text) in
    and_read-good (read_bug (first_word arguments)) of_bug IsGoodBug (λ both. IsGoodBug both.0 × IsTextWithin both.1)
    (read_bug-good (first_word arguments)) (λ bug fine. (fine, good))

-- a text, or somebody, who has to be given
some_text-good : (text : List ℕ) → IsTextWithin text → IfOk (some_text text) IsText
some_text-good [] good = tt
some_text-good (c ∷ text) good =
    cond_both (nat_lt 200 (length (c ∷ text))) (Err TooLong) (Ok (c ∷ text)) (λ r. IfOk r IsText)
    (λ e. tt) (λ e. good (omega arith) (ltb-false 200 (length (c ∷ text)) e))

abbrev IsGoodAddress : Who → Type 0
IsGoodAddress who = IsGoodPerson who × IsAddress who

address_who : (who : Who) → IsGoodGiven (λ text. ⊤) who → IsGoodAddress who
address_who Sender h = (tt, tt)
address_who (Given text) h = (h.0, h.1)

if_ok : {A : Type 0} (r : Result A Refusal) (P Q : A → Type 0) → IfOk r P → ((x : A) → P x → Q x) → IfOk r Q
if_ok (Ok x) P Q h each = each x h
if_ok (Err refusal) P Q h each = tt

some_who-good : (text : List ℕ) → IsTextWithin text → IfOk (some_who text) IsGoodAddress
some_who-good [] good = tt
some_who-good (c ∷ text) good =
    if_ok (who_of_text (c ∷ text)) (IsGoodGiven (λ t. ⊤)) IsGoodAddress
    (who_of_text-good (λ t. ⊤) (c ∷ text) tt (good (omega arith))) address_who

bug_and_some_text-good : (arguments : List ℕ) → list_any is_control arguments ≡ false
    → IfOk (bug_and_some_text arguments) (λ both. IsGoodBug both.0 × IsText both.1)
bug_and_some_text-good arguments clean =
    and_read-good (bug_and_text arguments) _ (λ both. IsGoodBug both.0 × IsTextWithin both.1)
    (λ both. IsGoodBug both.0 × IsText both.1) (bug_and_text-good arguments clean) (λ both good.
    and_read-good (some_text both.1) (λ text. Ok (both.0, text)) IsText (λ read. IsGoodBug read.0 × IsText read.1)
    (some_text-good both.1 good.1) (λ text fine. (good.0, fine)))

bug_and_some_who-good : (arguments : List ℕ) → list_any is_control arguments ≡ false
    → IfOk (bug_and_some_who arguments) (λ both. IsGoodBug both.0 × IsGoodAddress both.1)
bug_and_some_who-good arguments clean =
    and_read-good (bug_and_text arguments) _ (λ both. IsGoodBug both.0 × IsTextWithin both.1)
    (λ both. IsGoodBug both.0 × IsGoodAddress both.1) (bug_and_text-good arguments clean) (λ both good.
    and_read-good (some_who both.1) (λ who. Ok (both.0, who)) IsGoodAddress (λ read. IsGoodBug read.0 × IsGoodAddress read.1)
    (some_who-good both.1 good.1) (λ who fine. (good.0, fine)))

-- tags
any_steps : (r : Result (List TagStep) Refusal) → IfOk r (λ _. ⊤)
any_steps (Ok steps) = tt
any_steps (Err refusal) = tt

tags_command-good : (arguments : List ℕ) → IfOk (tags_command arguments) IsWellFormed
tags_command-good arguments =
    let steps = some_steps (words_with_commas (after_word arguments)) in
    let of_bug : Named → Result (Command Named) Refusal = λ bug. and_read steps (λ read. Ok (commands.Tags bug read)) in
    and_read-good (read_bug (first_word arguments)) of_bug IsGoodBug IsWellFormed (read_bug-good (first_word arguments))
    (λ bug good.
    and_read-good steps (λ read. Ok (commands.Tags bug read)) (λ _. ⊤) IsWellFormed (any_steps steps)
    (λ read _. record { bugs = (good, tt); parts = tt; spellable = tt }))

-- packages, of which one is given where they are added or taken out
abbrev AreGoodFor : AffectsStep → List (List ℕ) → Type 0
AreGoodFor step names = Each IsName names × HasPackages step names

same_step : (sign : Option Sign) (ws : List (List ℕ)) → IfOk (affects_step sign (are_given ws)) (λ step.
    IfOk (each_word read_package ws) (AreGoodFor step))
same_step sign ws = steps sign ws (each_word-good read_package IsName read_package-good ws)
  where
    replaced : (ws : List (List ℕ)) → IfOk (each_word read_package ws) (Each IsName)
        → IfOk (each_word read_package ws) (AreGoodFor affecting.Replace)
    replaced ws h = if_ok (each_word read_package ws) (Each IsName) (AreGoodFor affecting.Replace) h (λ names good. (good, tt))

    some : (w : List ℕ) (ws : List (List ℕ)) → IfOk (each_word read_package (w ∷ ws)) (λ names. Each IsName names × (0 < length names))
    some w ws = some_words-good read_package IsName read_package-good w ws

    steps : (sign : Option Sign) (ws : List (List ℕ)) → IfOk (each_word read_package ws) (Each IsName)
        → IfOk (affects_step sign (are_given ws)) (λ step. IfOk (each_word read_package ws) (AreGoodFor step))
    steps (Some Equals) ws h = replaced ws h
    steps (Some Plus) [] h = tt
    steps (Some Plus) (w ∷ ws) h = some w ws
    steps (Some Minus) [] h = tt
    steps (Some Minus) (w ∷ ws) h = some w ws
    steps None [] h = replaced [] h
    steps None (w ∷ ws) h = some w ws

affects_command-good : (arguments : List ℕ) → IfOk (affects_command arguments) IsWellFormed
affects_command-good arguments =
    let signed = sign_and_words (words_with_commas (after_word arguments)) in
    let of_step : Named → AffectsStep → Result (Command Named) Refusal =
    λ bug step. and_read (each_word read_package signed.1) (λ names. Ok (commands.Affects bug step names)) in
    let of_bug : Named → Result (Command Named) Refusal =
    λ bug. and_read (affects_step signed.0 (are_given signed.1)) (of_step bug) in
    and_read-good (read_bug (first_word arguments)) of_bug IsGoodBug IsWellFormed (read_bug-good (first_word arguments))
    (λ bug good.
    and_read-good (affects_step signed.0 (are_given signed.1)) (of_step bug) _ IsWellFormed (same_step signed.0 signed.1)
    (λ step read.
    and_read-good (each_word read_package signed.1) (λ names. Ok (commands.Affects bug step names)) (AreGoodFor step) IsWellFormed read
    (λ names fine. record { bugs = (good, tt); parts = fine.0; spellable = fine.1 })))

reopen_command-good : (arguments : List ℕ) → list_any is_control arguments ≡ false → IfOk (reopen_command arguments) IsWellFormed
reopen_command-good arguments clean =
    and_read-good (bug_and_text arguments) _ (λ both. IsGoodBug both.0 × IsTextWithin both.1) IsWellFormed
    (bug_and_text-good arguments clean) (λ both good.
    and_read-good (optional_who both.1) (λ who. Ok (commands.Reopen both.0 who)) IsGoodWho IsWellFormed
    (optional_who-good both.1 good.1) (λ who fine.
    record { bugs = (good.0, tt); parts = fine.0; spellable = fine.1 }))

pub command_of-good : (word : CommandWord) (arguments : List ℕ) → list_any is_control arguments ≡ false
    → IfOk (command_of word arguments) IsWellFormed
command_of-good command_words.Found arguments clean =
    and_read-good (bug_and_optional_version (words arguments)) (λ both. Ok (commands.Found both.0 both.1)) _ IsWellFormed
    (bug_and_optional_version-good (words arguments))
    (λ both good. record { bugs = (good.0, tt); parts = good.1; spellable = tt })
command_of-good command_words.NotFound arguments clean =
    and_read-good (bug_and_version (words arguments)) (λ both. Ok (commands.NotFound both.0 both.1)) _ IsWellFormed
    (bug_and_version-good (words arguments)) (λ both good. record { bugs = (good.0, tt); parts = good.1; spellable = tt })
command_of-good command_words.Fixed arguments clean =
    and_read-good (bug_and_version (words arguments)) (λ both. Ok (commands.Fixed both.0 both.1)) _ IsWellFormed
    (bug_and_version-good (words arguments)) (λ both good. record { bugs = (good.0, tt); parts = good.1; spellable = tt })
command_of-good command_words.NotFixed arguments clean =
    and_read-good (bug_and_version (words arguments)) (λ both. Ok (commands.NotFixed both.0 both.1)) _ IsWellFormed
    (bug_and_version-good (words arguments)) (λ both good. record { bugs = (good.0, tt); parts = good.1; spellable = tt })
command_of-good command_words.Close arguments clean =
    and_read-good (bug_and_optional_version (words arguments)) (λ both. Ok (commands.Close both.0 both.1)) _ IsWellFormed
    (bug_and_optional_version-good (words arguments))
    (λ both good. record { bugs = (good.0, tt); parts = good.1; spellable = tt })
command_of-good command_words.Reopen arguments clean = reopen_command-good arguments clean
command_of-good command_words.Severity arguments clean = severity_command-good (words arguments)
command_of-good command_words.Reassign arguments clean = reassign_command-good (words arguments)
command_of-good command_words.Tags arguments clean = tags_command-good arguments
command_of-good command_words.Tag arguments clean = tags_command-good arguments
command_of-good command_words.Retitle arguments clean =
    and_read-good (bug_and_some_text arguments) (λ both. Ok (commands.Retitle both.0 both.1)) _ IsWellFormed
    (bug_and_some_text-good arguments clean) (λ both good. record { bugs = (good.0, tt); parts = good.1; spellable = tt })
command_of-good command_words.Submitter arguments clean =
    and_read-good (bug_and_some_who arguments) (λ both. Ok (commands.Submitter both.0 both.1)) _ IsWellFormed
    (bug_and_some_who-good arguments clean)
    (λ both good. record { bugs = (good.0, tt); parts = good.1.0; spellable = good.1.1 })
command_of-good command_words.Merge arguments clean =
    and_read-good (bug_and_others (words arguments)) (λ both. Ok (commands.Merge both.0 both.1)) _ IsWellFormed
    (bug_and_others-good (words arguments))
    (λ both good. record { bugs = (good.0, good.1.0); parts = tt; spellable = good.1.1 })
command_of-good command_words.ForceMerge arguments clean =
    and_read-good (bug_and_others (words arguments)) (λ both. Ok (commands.ForceMerge both.0 both.1)) _ IsWellFormed
    (bug_and_others-good (words arguments))
    (λ both good. record { bugs = (good.0, good.1.0); parts = tt; spellable = good.1.1 })
command_of-good command_words.Clone arguments clean =
    and_read-good (bug_and_names (words arguments)) (λ both. Ok (commands.Clone both.0 both.1)) _ IsWellFormed
    (bug_and_names-good (words arguments)) (λ both good. record { bugs = (good.0, tt); parts = tt; spellable = good.1 })
command_of-good command_words.Block arguments clean =
    and_read-good (bug_by_bugs arguments) (λ both. Ok (commands.Block both.0 both.1)) _ IsWellFormed (bug_by_bugs-good arguments)
    (λ both good. record { bugs = (good.0, good.1.0); parts = tt; spellable = good.1.1 })
command_of-good command_words.Unblock arguments clean =
    and_read-good (bug_by_bugs arguments) (λ both. Ok (commands.Unblock both.0 both.1)) _ IsWellFormed
    (bug_by_bugs-good arguments)
    (λ both good. record { bugs = (good.0, good.1.0); parts = tt; spellable = good.1.1 })
command_of-good command_words.Forwarded arguments clean =
    and_read-good (bug_and_some_text arguments) (λ both. Ok (commands.Forwarded both.0 both.1)) _ IsWellFormed
    (bug_and_some_text-good arguments clean) (λ both good. record { bugs = (good.0, tt); parts = good.1; spellable = tt })
command_of-good command_words.Owner arguments clean =
    and_read-good (bug_and_some_who arguments) (λ both. Ok (commands.Owner both.0 both.1)) _ IsWellFormed
    (bug_and_some_who-good arguments clean)
    (λ both good. record { bugs = (good.0, tt); parts = good.1.0; spellable = good.1.1 })
command_of-good command_words.Affects arguments clean = affects_command-good arguments
command_of-good _ arguments clean =
    and_read-good (bug_alone (words arguments)) _ IsGoodBug IsWellFormed
    (bug_alone-good (words arguments)) (λ bug good. record { bugs = (good, tt); parts = tt; spellable = tt })
