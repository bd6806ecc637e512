-- The words of commands (the BTS page 'control and manipulation').
use Rattle.std.specs.Prelude.{ℕ, codes, List, [], ◌∷◌, Option}
use Rattle.std.specs.List.{find}
use Rattle.base_words.specs.AnyCase.{is_word}
use Rattle.control_grammar.specs.declared.command_word.CommandWord.{CommandWord}
use Rattle.control_grammar.specs.declared.command_word.CommandWord.TheVariants as command_words

-- all words of commands; `tag` is another word for `tags`
abbrev pub all_command_words : List CommandWord
all_command_words =
    command_words.Found ∷ command_words.NotFound ∷ command_words.Fixed ∷ command_words.NotFixed ∷ command_words.Close
    ∷ command_words.Reopen ∷ command_words.Severity ∷ command_words.Tags ∷ command_words.Tag ∷ command_words.Retitle
    ∷ command_words.Submitter ∷ command_words.Reassign ∷ command_words.Merge ∷ command_words.ForceMerge
    ∷ command_words.Unmerge ∷ command_words.Clone ∷ command_words.Block ∷ command_words.Unblock
    ∷ command_words.Forwarded ∷ command_words.NotForwarded ∷ command_words.Owner ∷ command_words.NoOwner
    ∷ command_words.Archive ∷ command_words.Unarchive ∷ command_words.Affects ∷ []

abbrev pub command_name : CommandWord → List ℕ
command_name command_words.Found = codes "found"
command_name command_words.NotFound = codes "notfound"
command_name command_words.Fixed = codes "fixed"
command_name command_words.NotFixed = codes "notfixed"
command_name command_words.Close = codes "close"
command_name command_words.Reopen = codes "reopen"
command_name command_words.Severity = codes "severity"
command_name command_words.Tags = codes "tags"
command_name command_words.Tag = codes "tag"
command_name command_words.Retitle = codes "retitle"
command_name command_words.Submitter = codes "submitter"
command_name command_words.Reassign = codes "reassign"
command_name command_words.Merge = codes "merge"
command_name command_words.ForceMerge = codes "forcemerge"
command_name command_words.Unmerge = codes "unmerge"
command_name command_words.Clone = codes "clone"
command_name command_words.Block = codes "block"
command_name command_words.Unblock = codes "unblock"
command_name command_words.Forwarded = codes "forwarded"
command_name command_words.NotForwarded = codes "notforwarded"
command_name command_words.Owner = codes "owner"
command_name command_words.NoOwner = codes "noowner"
command_name command_words.Archive = codes "archive"
command_name command_words.Unarchive = codes "unarchive"
command_name command_words.Affects = codes "affects"

-- the command that a word is, in any ASCII case
abbrev pub command_word : List ℕ → Option CommandWord
command_word word = find (λ command. is_word word (command_name command)) all_command_words
