-- The commands, each over the text after its own word (the BTS page 'control and manipulation').
use Rattle.std.specs.Prelude.{ℕ, nat_lt, ◌==◌, ◌||◌, codes, if◌then◌else◌, Bool, true, false, List, [], ◌∷◌, ◌++◌, length, Option, Some}
use Rattle.std.specs.Prelude.{None, Result, Ok, Err}
use Rattle.std.specs.Option.{ok_or}
use Rattle.std.specs.Str.{bytes_eq}
use Rattle.bug_record.specs.Severities.{severity_of}
use Rattle.bug_record.specs.Tags.{tag_of}
use Rattle.bug_record.specs.declared.command.Command.{Command}
use Rattle.bug_record.specs.declared.command.Command.TheVariants as commands
use Rattle.bug_record.specs.declared.command.TagStep.{TagStep}
use Rattle.bug_record.specs.declared.command.TagStep.TheVariants.{Add, Remove, Clear}
use Rattle.bug_record.specs.declared.command.AffectsStep.{AffectsStep}
use Rattle.bug_record.specs.declared.command.AffectsStep.TheVariants as affecting
use Rattle.bug_record.specs.declared.command.VersionArg.{VersionArg}
use Rattle.bug_record.specs.declared.command.Who.{Who}
use Rattle.bug_record.specs.declared.command.Who.TheVariants.{Sender, Given}
use Rattle.bug_record.specs.declared.tag.Tag.{Tag}
use Rattle.bug_record.specs.declared.command.Refusal.{Refusal}
use Rattle.bug_record.specs.declared.command.Refusal.TheVariants.{Malformed, TooLong, BadSeverity, BadTag, BadVersion, BadPackage}
use Rattle.base_words.specs.Words.{words, words_with_commas, first_word, after_word, trimmed}
use Rattle.base_words.specs.AnyCase.{is_word}
use Rattle.base_words.specs.Bugs.{bug_of_word, name_of_word}
use Rattle.control_grammar.specs.Versions.{version_of_word, package_of_word}
use Rattle.control_grammar.specs.declared.command_word.CommandWord.{CommandWord}
use Rattle.control_grammar.specs.declared.command_word.CommandWord.TheVariants as command_words
use Rattle.base_words.specs.declared.named.Named.{Named}
use Rattle.control_grammar.specs.declared.signs.Sign.{Sign}
use Rattle.control_grammar.specs.declared.signs.Sign.TheVariants.{Plus, Minus, Equals}

-- what is made of what was read, or its refusal
abbrev pub and_read : {A B : Type 0} → Result A Refusal → (A → Result B Refusal) → Result B Refusal
and_read (Err refusal) f = Err refusal
and_read (Ok x) f = f x

-- `n`
abbrev pub read_bug : List ℕ → Result Named Refusal
read_bug word = ok_or (bug_of_word word) Malformed

abbrev pub read_version : List ℕ → Result VersionArg Refusal
read_version word = ok_or (version_of_word word) BadVersion

abbrev pub read_package : List ℕ → Result (List ℕ) Refusal
read_package word = ok_or (package_of_word word) BadPackage

-- `n`, with no further word
abbrev pub bug_alone : List (List ℕ) → Result Named Refusal
bug_alone (n ∷ []) = read_bug n
bug_alone _ = Err Malformed

-- `n v`, with no further word
abbrev pub bug_and_version : List (List ℕ) → Result (Named × VersionArg) Refusal
bug_and_version (n ∷ v ∷ []) = and_read (read_bug n) (λ bug. and_read (read_version v) (λ version. Ok (bug, version)))
bug_and_version _ = Err Malformed

-- `n [v]`, with no further word
abbrev pub bug_and_optional_version : List (List ℕ) → Result (Named × Option VersionArg) Refusal
bug_and_optional_version (n ∷ []) = and_read (read_bug n) (λ bug. Ok (bug, None))
bug_and_optional_version (n ∷ v ∷ []) =
    and_read (read_bug n) (λ bug. and_read (read_version v) (λ version. Ok (bug, Some version)))
bug_and_optional_version _ = Err Malformed

-- `severity n s`, with no further word
abbrev pub severity_command : List (List ℕ) → Result (Command Named) Refusal
severity_command (n ∷ s ∷ []) =
    and_read (read_bug n) (λ bug. and_read (ok_or (severity_of s) BadSeverity) (λ severity. Ok (commands.Severity bug severity)))
severity_command _ = Err Malformed

-- `reassign n package [v]`, with no further word; of wrong words the first decides
abbrev pub reassign_command : List (List ℕ) → Result (Command Named) Refusal
reassign_command (n ∷ p ∷ []) =
    and_read (read_bug n) (λ bug. and_read (read_package p) (λ package_name. Ok (commands.Reassign bug package_name None)))
reassign_command (n ∷ p ∷ v ∷ []) =
    and_read (read_bug n) (λ bug. and_read (read_package p) (λ package_name. and_read (read_version v) (λ version.
    Ok (commands.Reassign bug package_name (Some version)))))
reassign_command _ = Err Malformed

-- the text itself, which has 200 bytes at most
abbrev pub limited_text : List ℕ → Result (List ℕ) Refusal
limited_text text = if nat_lt 200 (length text) then Err TooLong else Ok text

-- who a text is: `!` is the sender
abbrev pub who_of_text : List ℕ → Result Who Refusal
who_of_text text =
    if bytes_eq text (codes "!") then Ok Sender
    else and_read (limited_text text) (λ limited. Ok (Given limited))

-- a text that has to be given
abbrev pub some_text : List ℕ → Result (List ℕ) Refusal
some_text [] = Err Malformed
some_text (c ∷ text) = limited_text (c ∷ text)

-- somebody, who has to be given
abbrev pub some_who : List ℕ → Result Who Refusal
some_who [] = Err Malformed
some_who (c ∷ text) = who_of_text (c ∷ text)

-- who is to be the submitter; `=` or nothing is nobody
abbrev pub optional_who : List ℕ → Result (Option Who) Refusal
optional_who [] = Ok None
optional_who (c ∷ text) =
    if bytes_eq (c ∷ text) (codes "=") then Ok None
    else and_read (who_of_text (c ∷ text)) (λ who. Ok (Some who))

-- the bug of the first word, and the text after it, without outer blanks
abbrev pub bug_and_text : List ℕ → Result (Named × List ℕ) Refusal
bug_and_text arguments = and_read (read_bug (first_word arguments)) (λ bug. Ok (bug, trimmed (after_word arguments)))

-- `reopen n [who or =]`
abbrev pub reopen_command : List ℕ → Result (Command Named) Refusal
reopen_command arguments =
    and_read (bug_and_text arguments) (λ both. and_read (optional_who both.1) (λ who. Ok (commands.Reopen both.0 who)))

-- `n text`
abbrev pub bug_and_some_text : List ℕ → Result (Named × List ℕ) Refusal
bug_and_some_text arguments = and_read (bug_and_text arguments) (λ both. and_read (some_text both.1) (λ text. Ok (both.0, text)))

-- `n who`
abbrev pub bug_and_some_who : List ℕ → Result (Named × Who) Refusal
bug_and_some_who arguments = and_read (bug_and_text arguments) (λ both. and_read (some_who both.1) (λ who. Ok (both.0, who)))

-- what each of the words gives, or the refusal of the first that gives nothing
abbrev pub each_word : {A : Type 0} → (List ℕ → Result A Refusal) → List (List ℕ) → Result (List A) Refusal
each_word read [] = Ok []
each_word read (word ∷ more) = and_read (read word) (λ x. and_read (each_word read more) (λ xs. Ok (x ∷ xs)))

-- `m ..`, one bug or more
abbrev pub some_bugs : List (List ℕ) → Result (List Named) Refusal
some_bugs [] = Err Malformed
some_bugs (m ∷ more) = each_word read_bug (m ∷ more)

-- `n m ..`, two bugs or more
abbrev pub bug_and_others : List (List ℕ) → Result (Named × List Named) Refusal
bug_and_others [] = Err Malformed
bug_and_others (n ∷ others) = and_read (read_bug n) (λ bug. and_read (some_bugs others) (λ more. Ok (bug, more)))

-- `-1`, a name that is given
abbrev pub read_name : List ℕ → Result ℕ Refusal
read_name word = ok_or (name_of_word word) Malformed

-- `-1 ..`, one name or more
abbrev pub some_names : List (List ℕ) → Result (List ℕ) Refusal
some_names [] = Err Malformed
some_names (k ∷ more) = each_word read_name (k ∷ more)

-- `n -1 ..`: a bug, and one name or more
abbrev pub bug_and_names : List (List ℕ) → Result (Named × List ℕ) Refusal
bug_and_names [] = Err Malformed
bug_and_names (n ∷ names) = and_read (read_bug n) (λ bug. and_read (some_names names) (λ more. Ok (bug, more)))

-- the words that stand before blockers, in any ASCII case
abbrev pub is_by : List ℕ → Bool
is_by word = is_word word (codes "by") || is_word word (codes "with")

-- `by m ..`: `by` or `with`, then, with commas as blanks, one bug or more
abbrev pub by_bugs : List ℕ → Result (List Named) Refusal
by_bugs text = if is_by (first_word text) then some_bugs (words_with_commas (after_word text)) else Err Malformed

-- `n by m ..`: a bug, and those after `by`
abbrev pub bug_by_bugs : List ℕ → Result (Named × List Named) Refusal
bug_by_bugs arguments =
    and_read (read_bug (first_word arguments)) (λ bug. and_read (by_bugs (after_word arguments)) (λ others. Ok (bug, others)))

-- The sign that a word begins with, and what follows it: one `+`, `-` or `=`, or none.
-- What signs say here is this project's own rule.
abbrev pub sign_and_rest : List ℕ → Option Sign × List ℕ
sign_and_rest [] = (None, [])
sign_and_rest (c ∷ word) =
    if c == 43 then (Some Plus, word)
    else if c == 45 then (Some Minus, word)
    else if c == 61 then (Some Equals, word)
    else (None, c ∷ word)

-- Whether tags are added, or taken out, from a sign on: `-` takes them out.
-- Without a sign it is as before.
abbrev pub adds_after : Option Sign → Bool → Bool
adds_after None adds = adds
adds_after (Some Plus) adds = true
adds_after (Some Minus) adds = false
adds_after (Some Equals) adds = true

-- `=` takes out all tags
abbrev pub sign_steps : Option Sign → List TagStep
sign_steps (Some Equals) = Clear ∷ []
sign_steps _ = []

abbrev pub tag_step : Bool → Tag → TagStep
tag_step adds tag = if adds then Add tag else Remove tag

-- the step of a word's tag; a sign may stand without one
abbrev pub tag_steps : Bool → List ℕ → Result (List TagStep) Refusal
tag_steps adds [] = Ok []
tag_steps adds (c ∷ word) = and_read (ok_or (tag_of (c ∷ word)) BadTag) (λ tag. Ok (tag_step adds tag ∷ []))

-- the steps of a sign, then that of the tag after it
abbrev pub word_steps : Bool → Option Sign → List ℕ → Result (List TagStep) Refusal
word_steps adds sign tag = and_read (tag_steps adds tag) (λ steps. Ok (sign_steps sign ++ steps))

-- The steps of words, which begin with adding tags, or with taking them out: a sign holds until the
-- next one.
abbrev pub all_steps : Bool → List (List ℕ) → Result (List TagStep) Refusal
all_steps adds [] = Ok []
all_steps adds (word ∷ more) =
    let signed = sign_and_rest word in
    let now = adds_after signed.0 adds in
    and_read (word_steps now signed.0 signed.1) (λ steps. and_read (all_steps now more) (λ others. Ok (steps ++ others)))

-- the steps of one word or more, which begin with adding tags
abbrev pub some_steps : List (List ℕ) → Result (List TagStep) Refusal
some_steps [] = Err Malformed
some_steps (word ∷ more) = all_steps true (word ∷ more)

-- `tags n ..`: after the bug's word commas are blanks too
abbrev pub tags_command : List ℕ → Result (Command Named) Refusal
tags_command arguments =
    and_read (read_bug (first_word arguments)) (λ bug. and_read (some_steps (words_with_commas (after_word arguments))) (λ steps.
    Ok (commands.Tags bug steps)))

-- the words with what is left of the first one, unless that is nothing
abbrev pub with_rest : List ℕ → List (List ℕ) → List (List ℕ)
with_rest [] more = more
with_rest (c ∷ word) more = (c ∷ word) ∷ more

-- The sign that the first word is or begins with, and the words after the sign.
-- It holds for all of them.
abbrev pub sign_and_words : List (List ℕ) → Option Sign × List (List ℕ)
sign_and_words [] = (None, [])
sign_and_words (word ∷ more) = let signed = sign_and_rest word in (signed.0, with_rest signed.1 more)

abbrev pub are_given : List (List ℕ) → Bool
are_given [] = false
are_given (word ∷ more) = true

-- What is done with packages, which are given or not: without a sign they are added, and without a
-- sign and a package the set is emptied; `+` and `-` ask for one.
abbrev pub affects_step : Option Sign → Bool → Result AffectsStep Refusal
affects_step (Some Equals) given = Ok affecting.Replace
affects_step (Some Plus) given = if given then Ok affecting.Add else Err Malformed
affects_step (Some Minus) given = if given then Ok affecting.Remove else Err Malformed
affects_step None given = if given then Ok affecting.Add else Ok affecting.Replace

-- `affects n [+|-|=] package ..`: after the bug's word commas are blanks too
abbrev pub affects_command : List ℕ → Result (Command Named) Refusal
affects_command arguments =
    let signed = sign_and_words (words_with_commas (after_word arguments)) in
    and_read (read_bug (first_word arguments)) (λ bug.
    and_read (affects_step signed.0 (are_given signed.1)) (λ step.
    and_read (each_word read_package signed.1) (λ names.
    Ok (commands.Affects bug step names))))

-- the command that its own word and the text after it give
abbrev pub command_of : CommandWord → List ℕ → Result (Command Named) Refusal
command_of command_words.Found arguments =
    and_read (bug_and_optional_version (words arguments)) (λ both. Ok (commands.Found both.0 both.1))
command_of command_words.NotFound arguments =
    and_read (bug_and_version (words arguments)) (λ both. Ok (commands.NotFound both.0 both.1))
command_of command_words.Fixed arguments =
    and_read (bug_and_version (words arguments)) (λ both. Ok (commands.Fixed both.0 both.1))
command_of command_words.NotFixed arguments =
    and_read (bug_and_version (words arguments)) (λ both. Ok (commands.NotFixed both.0 both.1))
command_of command_words.Close arguments =
    and_read (bug_and_optional_version (words arguments)) (λ both. Ok (commands.Close both.0 both.1))
command_of command_words.Reopen arguments = reopen_command arguments
command_of command_words.Severity arguments = severity_command (words arguments)
command_of command_words.Reassign arguments = reassign_command (words arguments)
command_of command_words.Tags arguments = tags_command arguments
command_of command_words.Tag arguments = tags_command arguments
command_of command_words.Retitle arguments = and_read (bug_and_some_text arguments) (λ both. Ok (commands.Retitle both.0 both.1))
command_of command_words.Submitter arguments =
    and_read (bug_and_some_who arguments) (λ both. Ok (commands.Submitter both.0 both.1))
command_of command_words.Merge arguments = and_read (bug_and_others (words arguments)) (λ both. Ok (commands.Merge both.0 both.1))
command_of command_words.ForceMerge arguments =
    and_read (bug_and_others (words arguments)) (λ both. Ok (commands.ForceMerge both.0 both.1))
command_of command_words.Unmerge arguments = and_read (bug_alone (words arguments)) (λ bug. Ok (commands.Unmerge bug))
command_of command_words.Clone arguments = and_read (bug_and_names (words arguments)) (λ both. Ok (commands.Clone both.0 both.1))
command_of command_words.Block arguments = and_read (bug_by_bugs arguments) (λ both. Ok (commands.Block both.0 both.1))
command_of command_words.Unblock arguments = and_read (bug_by_bugs arguments) (λ both. Ok (commands.Unblock both.0 both.1))
command_of command_words.Forwarded arguments =
    and_read (bug_and_some_text arguments) (λ both. Ok (commands.Forwarded both.0 both.1))
command_of command_words.NotForwarded arguments = and_read (bug_alone (words arguments)) (λ bug. Ok (commands.NotForwarded bug))
command_of command_words.Owner arguments = and_read (bug_and_some_who arguments) (λ both. Ok (commands.Owner both.0 both.1))
command_of command_words.NoOwner arguments = and_read (bug_alone (words arguments)) (λ bug. Ok (commands.NoOwner bug))
command_of command_words.Archive arguments = and_read (bug_alone (words arguments)) (λ bug. Ok (commands.Archive bug))
command_of command_words.Unarchive arguments = and_read (bug_alone (words arguments)) (λ bug. Ok (commands.Unarchive bug))
command_of command_words.Affects arguments = affects_command arguments
