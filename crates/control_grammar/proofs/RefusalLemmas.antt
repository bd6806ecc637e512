-- What refuses a line.
use Rattle.std.proofs.Common.{ℕ, List, [], ◌∷◌, length, nat_lt, Bool, true, false, Option, Result, Some, None, Ok, Err, codes}
use Rattle.std.specs.Prelude.{IfErr, if◌then◌else◌}
use Rattle.std.specs.List.{list_any}
use Rattle.std.specs.Str.{bytes_eq}
use Rattle.std.proofs.lemmas.Bool.{cond_both}
use Rattle.base_words.specs.Blanks.{is_control}
use Rattle.base_words.specs.Bugs.{bug_of_word, name_of_word}
use Rattle.base_words.specs.Words.{first_word, words, words_with_commas, trimmed, after_word}
use Rattle.base_words.specs.declared.named.Named.{Named}
use Rattle.std.specs.Option.{ok_or}
use Rattle.bug_record.specs.Severities.{severity_of}
use Rattle.bug_record.specs.Tags.{tag_of}
use Rattle.bug_record.specs.declared.command.Command.{Command}
use Rattle.bug_record.specs.declared.command.Command.TheVariants as commands
use Rattle.bug_record.specs.declared.command.Refusal.{Refusal}
use Rattle.bug_record.specs.declared.command.Refusal.TheVariants.{Unknown, Malformed, TooLong, BadSeverity, BadTag, BadVersion}
use Rattle.bug_record.specs.declared.command.Refusal.TheVariants.{BadPackage}
use Rattle.bug_record.specs.declared.command.Who.TheVariants.{Sender, Given}
use Rattle.bug_record.specs.declared.command.AffectsStep.{AffectsStep}
use Rattle.control_grammar.specs.declared.signs.Sign.{Sign}
use Rattle.control_grammar.specs.declared.signs.Sign.TheVariants.{Plus, Minus, Equals}
use Rattle.control_grammar.specs.declared.command_word.CommandWord.{CommandWord}
use Rattle.control_grammar.specs.declared.command_word.CommandWord.TheVariants as command_words
use Rattle.control_grammar.specs.CommandWords.{command_word}
use Rattle.control_grammar.specs.Versions.{version_of_word, package_of_word}
use Rattle.control_grammar.specs.Commands.{and_read, read_bug, read_version, read_package, bug_alone, bug_and_version}
use Rattle.control_grammar.specs.Commands.{bug_and_optional_version, severity_command, reassign_command, limited_text}
use Rattle.control_grammar.specs.Commands.{who_of_text, some_text, some_who, optional_who, bug_and_text, bug_and_some_text}
use Rattle.control_grammar.specs.Commands.{affects_step, are_given, sign_and_words, affects_command, some_bugs, read_name, some_names, bug_and_names, is_by, by_bugs, bug_by_bugs}
use Rattle.control_grammar.specs.Commands.{bug_and_some_who, each_word, bug_and_others, sign_and_rest, adds_after, tag_step}
use Rattle.control_grammar.specs.Commands.{tag_steps, word_steps, all_steps, some_steps, tags_command, reopen_command, command_of}
use Rattle.control_grammar.specs.declared.line.Line.{Line}
use Rattle.control_grammar.specs.declared.line.Line.TheVariants.{Comment, Stop, Do}
use Rattle.control_grammar.specs.Lines.{begins_hash, is_stop_line, command_reading, reading_of_words, reading, IsRefusalOfLine}

-- what is read, or a refusal of a line
abbrev IsOfLine : {A : Type 0} → Result A Refusal → Type 0
IsOfLine r = IfErr r IsRefusalOfLine

ok_or-of : {A : Type 0} (o : Option A) (refusal : Refusal) → IsRefusalOfLine refusal → IsOfLine (ok_or o refusal)
ok_or-of None refusal h = h
ok_or-of (Some x) refusal h = tt

and_read-of : {A B : Type 0} (r : Result A Refusal) (f : A → Result B Refusal) → IsOfLine r → ((x : A) → IsOfLine (f x))
    → IsOfLine (and_read r f)
and_read-of (Err refusal) f h each = h
and_read-of (Ok x) f h each = each x

read_bug-of : (word : List ℕ) → IsOfLine (read_bug word)
read_bug-of word = ok_or-of (bug_of_word word) Malformed tt

read_version-of : (word : List ℕ) → IsOfLine (read_version word)
read_version-of word = ok_or-of (version_of_word word) BadVersion tt

read_package-of : (word : List ℕ) → IsOfLine (read_package word)
read_package-of word = ok_or-of (package_of_word word) BadPackage tt

bug_alone-of : (ws : List (List ℕ)) → IsOfLine (bug_alone ws)
bug_alone-of [] = tt
bug_alone-of (n ∷ []) = read_bug-of n
bug_alone-of (n ∷ m ∷ ws) = tt

bug_and_version-of : (ws : List (List ℕ)) → IsOfLine (bug_and_version ws)
bug_and_version-of [] = tt
bug_and_version-of (n ∷ []) = tt
bug_and_version-of (n ∷ v ∷ []) =
    and_read-of (read_bug n) _ (read_bug-of n)
    (λ bug. and_read-of (read_version v) (λ version. Ok (bug, version)) (read_version-of v) (λ version. tt))
bug_and_version-of (n ∷ v ∷ w ∷ ws) = tt

bug_and_optional_version-of : (ws : List (List ℕ)) → IsOfLine (bug_and_optional_version ws)
bug_and_optional_version-of [] = tt
bug_and_optional_version-of (n ∷ []) = and_read-of (read_bug n) (λ bug. Ok (bug, None)) (read_bug-of n) (λ bug. tt)
bug_and_optional_version-of (n ∷ v ∷ []) =
    and_read-of (read_bug n) _ (read_bug-of n)
    (λ bug. and_read-of (read_version v) (λ version. Ok (bug, Some version)) (read_version-of v) (λ version. tt))
bug_and_optional_version-of (n ∷ v ∷ w ∷ ws) = tt

severity_command-of : (ws : List (List ℕ)) → IsOfLine (severity_command ws)
severity_command-of [] = tt
severity_command-of (n ∷ []) = tt
severity_command-of (n ∷ s ∷ []) =
    and_read-of (read_bug n) _ (read_bug-of n)
    (λ bug. and_read-of (ok_or (severity_of s) BadSeverity) (λ severity. Ok (commands.Severity bug severity))
    (ok_or-of (severity_of s) BadSeverity tt) (λ severity. tt))
severity_command-of (n ∷ s ∷ w ∷ ws) = tt

reassign_command-of : (ws : List (List ℕ)) → IsOfLine (reassign_command ws)
reassign_command-of [] = tt
reassign_command-of (n ∷ []) = tt
reassign_command-of (n ∷ p ∷ []) =
    and_read-of (read_bug n) _ (read_bug-of n)
    (λ bug. and_read-of (read_package p) (λ name. Ok (commands.Reassign bug name None)) (read_package-of p) (λ name. tt))
reassign_command-of (n ∷ p ∷ v ∷ []) =
    and_read-of (read_bug n) _ (read_bug-of n) (λ bug. and_read-of (read_package p) _ (read_package-of p) (λ name.
    and_read-of (read_version v) (λ version. Ok (commands.Reassign bug name (Some version))) (read_version-of v) (λ version. tt)))
reassign_command-of (n ∷ p ∷ v ∷ w ∷ ws) = tt

limited_text-of : (text : List ℕ) → IsOfLine (limited_text text)
limited_text-of text = cond_both (nat_lt 200 (length text)) (Err TooLong) (Ok text) (λ r. IsOfLine r) (λ e. tt) (λ e. tt)

who_of_text-of : (text : List ℕ) → IsOfLine (who_of_text text)
who_of_text-of text =
    cond_both (bytes_eq text (codes "!")) (Ok Sender) (and_read (limited_text text) (λ limited. Ok (Given limited)))
    (λ r. IsOfLine r) (λ e. tt)
    (λ e. and_read-of (limited_text text) (λ limited. Ok (Given limited)) (limited_text-of text) (λ limited. tt))

some_text-of : (text : List ℕ) → IsOfLine (some_text text)
some_text-of [] = tt
some_text-of (c ∷ text) = limited_text-of (c ∷ text)

some_who-of : (text : List ℕ) → IsOfLine (some_who text)
some_who-of [] = tt
some_who-of (c ∷ text) = who_of_text-of (c ∷ text)

optional_who-of : (text : List ℕ) → IsOfLine (optional_who text)
optional_who-of [] = tt
optional_who-of (c ∷ text) =
    cond_both (bytes_eq (c ∷ text) (codes "=")) (Ok None) (and_read (who_of_text (c ∷ text)) (λ who. Ok (Some who)))
    (λ r. IsOfLine r) (λ e. tt)
    (λ e. and_read-of (who_of_text (c ∷ text)) (λ who. Ok (Some who)) (who_of_text-of (c ∷ text)) (λ who. tt))

bug_and_text-of : (arguments : List ℕ) → IsOfLine (bug_and_text arguments)
bug_and_text-of arguments =
    let text = trimmed (after_word arguments) in
    let of_bug : Named → Result (Named × List ℕ) Refusal = λ bug. Ok (bug, text) in
    and_read-of (read_bug (first_word arguments)) of_bug (read_bug-of (first_word arguments)) (λ bug. tt)

bug_and_some_text-of : (arguments : List ℕ) → IsOfLine (bug_and_some_text arguments)
bug_and_some_text-of arguments =
    and_read-of (bug_and_text arguments) _ (bug_and_text-of arguments)
    (λ both. and_read-of (some_text both.1) (λ text. Ok (both.0, text)) (some_text-of both.1) (λ text. tt))

bug_and_some_who-of : (arguments : List ℕ) → IsOfLine (bug_and_some_who arguments)
bug_and_some_who-of arguments =
    and_read-of (bug_and_text arguments) _ (bug_and_text-of arguments)
    (λ both. and_read-of (some_who both.1) (λ who. Ok (both.0, who)) (some_who-of both.1) (λ who. tt))

reopen_command-of : (arguments : List ℕ) → IsOfLine (reopen_command arguments)
reopen_command-of arguments =
    and_read-of (bug_and_text arguments) _ (bug_and_text-of arguments) (λ both.
    and_read-of (optional_who both.1) (λ who. Ok (commands.Reopen both.0 who)) (optional_who-of both.1) (λ who. tt))

each_word-of : {A : Type 0} (read : List ℕ → Result A Refusal) → ((word : List ℕ) → IsOfLine (read word)) → (ws : List (List ℕ))
    → IsOfLine (each_word read ws)
each_word-of read each [] = tt
each_word-of read each (word ∷ ws) =
    and_read-of (read word) _ (each word)
    (λ x. and_read-of (each_word read ws) (λ xs. Ok (x ∷ xs)) (each_word-of read each ws) (λ xs. tt))

some_bugs-of : (ws : List (List ℕ)) → IsOfLine (some_bugs ws)
some_bugs-of [] = tt
some_bugs-of (m ∷ ws) = each_word-of read_bug read_bug-of (m ∷ ws)

bug_and_others-of : (ws : List (List ℕ)) → IsOfLine (bug_and_others ws)
bug_and_others-of [] = tt
bug_and_others-of (n ∷ ws) =
    and_read-of (read_bug n) _ (read_bug-of n)
    (λ bug. and_read-of (some_bugs ws) (λ others. Ok (bug, others)) (some_bugs-of ws) (λ others. tt))

read_name-of : (word : List ℕ) → IsOfLine (read_name word)
read_name-of word = ok_or-of (name_of_word word) Malformed tt

some_names-of : (ws : List (List ℕ)) → IsOfLine (some_names ws)
some_names-of [] = tt
some_names-of (k ∷ ws) = each_word-of read_name read_name-of (k ∷ ws)

bug_and_names-of : (ws : List (List ℕ)) → IsOfLine (bug_and_names ws)
bug_and_names-of [] = tt
bug_and_names-of (n ∷ ws) =
    and_read-of (read_bug n) _ (read_bug-of n)
    (λ bug. and_read-of (some_names ws) (λ names. Ok (bug, names)) (some_names-of ws) (λ names. tt))

by_bugs-of : (text : List ℕ) → IsOfLine (by_bugs text)
by_bugs-of text =
    let others = words_with_commas (after_word text) in
    cond_both (is_by (first_word text)) (some_bugs others) (Err Malformed) (λ r. IsOfLine r) (λ e. some_bugs-of others) (λ e. tt)

bug_by_bugs-of : (arguments : List ℕ) → IsOfLine (bug_by_bugs arguments)
bug_by_bugs-of arguments =
    let rest = after_word arguments in
    let of_bug : Named → Result (Named × List Named) Refusal = λ bug. and_read (by_bugs rest) (λ others. Ok (bug, others)) in
    and_read-of (read_bug (first_word arguments)) of_bug (read_bug-of (first_word arguments))
    (λ bug. and_read-of (by_bugs rest) (λ others. Ok (bug, others)) (by_bugs-of rest) (λ others. tt))

tag_steps-of : (adds : Bool) (word : List ℕ) → IsOfLine (tag_steps adds word)
tag_steps-of adds [] = tt
tag_steps-of adds (c ∷ word) =
    and_read-of (ok_or (tag_of (c ∷ word)) BadTag) (λ tag. Ok (tag_step adds tag ∷ [])) (ok_or-of (tag_of (c ∷ word)) BadTag tt)
    (λ tag. tt)

all_steps-of : (adds : Bool) (ws : List (List ℕ)) → IsOfLine (all_steps adds ws)
all_steps-of adds [] = tt
all_steps-of adds (word ∷ ws) =
    let now = adds_after (sign_and_rest word).0 adds in
    and_read-of (word_steps now (sign_and_rest word).0 (sign_and_rest word).1) _
    (and_read-of (tag_steps now (sign_and_rest word).1) _ (tag_steps-of now (sign_and_rest word).1) (λ steps. tt)) (λ steps.
    and_read-of (all_steps now ws) _ (all_steps-of now ws) (λ others. tt))

some_steps-of : (ws : List (List ℕ)) → IsOfLine (some_steps ws)
some_steps-of [] = tt
some_steps-of (word ∷ ws) = all_steps-of true (word ∷ ws)

tags_command-of : (arguments : List ℕ) → IsOfLine (tags_command arguments)
tags_command-of arguments =
    let tags = words_with_commas (after_word arguments) in
    let of_bug : Named → Result (Command Named) Refusal =
    λ bug. and_read (some_steps tags) (λ read. Ok (commands.Tags bug read)) in
    and_read-of (read_bug (first_word arguments)) of_bug (read_bug-of (first_word arguments))
    (λ bug. and_read-of (some_steps tags) (λ read. Ok (commands.Tags bug read)) (some_steps-of tags) (λ read. tt))

affects_step-of : (sign : Option Sign) (given : Bool) → IsOfLine (affects_step sign given)
affects_step-of (Some Equals) given = tt
affects_step-of (Some Plus) true = tt
affects_step-of (Some Plus) false = tt
affects_step-of (Some Minus) true = tt
affects_step-of (Some Minus) false = tt
affects_step-of None true = tt
affects_step-of None false = tt

affects_command-of : (arguments : List ℕ) → IsOfLine (affects_command arguments)
affects_command-of arguments =
    let signed = sign_and_words (words_with_commas (after_word arguments)) in
    let of_step : Named → AffectsStep → Result (Command Named) Refusal =
    λ bug step. and_read (each_word read_package signed.1) (λ names. Ok (commands.Affects bug step names)) in
    let of_bug : Named → Result (Command Named) Refusal =
    λ bug. and_read (affects_step signed.0 (are_given signed.1)) (of_step bug) in
    and_read-of (read_bug (first_word arguments)) of_bug (read_bug-of (first_word arguments)) (λ bug.
    and_read-of (affects_step signed.0 (are_given signed.1)) (of_step bug) (affects_step-of signed.0 (are_given signed.1)) (λ step.
    and_read-of (each_word read_package signed.1) (λ names. Ok (commands.Affects bug step names))
    (each_word-of read_package read_package-of signed.1) (λ names. tt)))

command_of-of : (word : CommandWord) (arguments : List ℕ) → IsOfLine (command_of word arguments)
command_of-of command_words.Found arguments =
    and_read-of (bug_and_optional_version (words arguments)) _ (bug_and_optional_version-of (words arguments)) (λ both. tt)
command_of-of command_words.NotFound arguments =
    and_read-of (bug_and_version (words arguments)) _ (bug_and_version-of (words arguments)) (λ both. tt)
command_of-of command_words.Fixed arguments =
    and_read-of (bug_and_version (words arguments)) _ (bug_and_version-of (words arguments)) (λ both. tt)
command_of-of command_words.NotFixed arguments =
    and_read-of (bug_and_version (words arguments)) _ (bug_and_version-of (words arguments)) (λ both. tt)
command_of-of command_words.Close arguments =
    and_read-of (bug_and_optional_version (words arguments)) _ (bug_and_optional_version-of (words arguments)) (λ both. tt)
command_of-of command_words.Reopen arguments = reopen_command-of arguments
command_of-of command_words.Severity arguments = severity_command-of (words arguments)
command_of-of command_words.Reassign arguments = reassign_command-of (words arguments)
command_of-of command_words.Tags arguments = tags_command-of arguments
command_of-of command_words.Tag arguments = tags_command-of arguments
command_of-of command_words.Retitle arguments =
    and_read-of (bug_and_some_text arguments) _ (bug_and_some_text-of arguments) (λ both. tt)
command_of-of command_words.Submitter arguments =
    and_read-of (bug_and_some_who arguments) _ (bug_and_some_who-of arguments) (λ both. tt)
command_of-of command_words.Merge arguments =
    and_read-of (bug_and_others (words arguments)) _ (bug_and_others-of (words arguments)) (λ both. tt)
command_of-of command_words.ForceMerge arguments =
    and_read-of (bug_and_others (words arguments)) _ (bug_and_others-of (words arguments)) (λ both. tt)
command_of-of command_words.Clone arguments =
    and_read-of (bug_and_names (words arguments)) _ (bug_and_names-of (words arguments)) (λ both. tt)
command_of-of command_words.Block arguments = and_read-of (bug_by_bugs arguments) _ (bug_by_bugs-of arguments) (λ both. tt)
command_of-of command_words.Unblock arguments = and_read-of (bug_by_bugs arguments) _ (bug_by_bugs-of arguments) (λ both. tt)
command_of-of command_words.Forwarded arguments =
    and_read-of (bug_and_some_text arguments) _ (bug_and_some_text-of arguments) (λ both. tt)
command_of-of command_words.Owner arguments =
    and_read-of (bug_and_some_who arguments) _ (bug_and_some_who-of arguments) (λ both. tt)
command_of-of command_words.Affects arguments = affects_command-of arguments
command_of-of _ arguments =
    and_read-of (bug_alone (words arguments)) _ (bug_alone-of (words arguments)) (λ bug. tt)

abbrev as_line : Command Named → Result Line Refusal
as_line meant = Ok (Do meant)

command_reading-of : (command : CommandWord) (text : List ℕ) → IsOfLine (command_reading command text)
command_reading-of command text =
    cond_both (list_any is_control text) (Err Malformed) (and_read (command_of command (after_word text)) as_line)
    (λ r. IsOfLine r)
    (λ e. tt) (λ e. and_read-of (command_of command (after_word text)) as_line (command_of-of command (after_word text))
    (λ meant. tt))

reading_of_words-of : (text : List ℕ) (ws : List (List ℕ)) → IsOfLine (reading_of_words text ws)
reading_of_words-of text [] = tt
reading_of_words-of text (word ∷ ws) =
    let reads : CommandWord → Result Line Refusal = λ command. command_reading command text in
    let command = and_read (ok_or (command_word word) Unknown) reads in
    cond_both (begins_hash word) (Ok Comment) (if is_stop_line (word ∷ ws) then Ok Stop else command) (λ r. IsOfLine r) (λ e. tt)
    (λ e. cond_both (is_stop_line (word ∷ ws)) (Ok Stop) command (λ r. IsOfLine r) (λ f. tt)
    (λ f. and_read-of (ok_or (command_word word) Unknown) reads (ok_or-of (command_word word) Unknown tt)
    (λ found. command_reading-of found text)))

pub reading-of : (text : List ℕ) → IfErr (reading text) IsRefusalOfLine
unfolding reading
reading-of text = reading_of_words-of text (words text)
