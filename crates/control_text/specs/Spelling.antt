-- The canonical spelling of a command: its own word, its severity and its tags in lower case, and
-- one space between words.
-- This project's own rule.
use Rattle.std.specs.Prelude.{ℕ, codes, List, [], ◌∷◌, ◌++◌, map, Option, Some, None}
use Rattle.std.specs.List.{join_with_byte}
use Rattle.std.specs.Option.{option_map_or}
use Rattle.std.specs.Fmt.{decimal}
use Rattle.bug_record.specs.Severities.{severity_name}
use Rattle.bug_record.specs.Tags.{tag_name}
use Rattle.bug_record.specs.declared.command.Command.{Command}
use Rattle.bug_record.specs.declared.command.Command.TheVariants as commands
use Rattle.bug_record.specs.declared.command.TagStep.{TagStep}
use Rattle.bug_record.specs.declared.command.TagStep.TheVariants.{Add, Remove, Clear}
use Rattle.bug_record.specs.declared.command.AffectsStep.{AffectsStep}
use Rattle.bug_record.specs.declared.command.AffectsStep.TheVariants as affecting
use Rattle.bug_record.specs.declared.command.VersionArg.{VersionArg}
use Rattle.bug_record.specs.declared.command.Who.{Who}
use Rattle.bug_record.specs.declared.command.Who.TheVariants.{Sender, Given}
use Rattle.base_words.specs.declared.named.Named.{Named}
use Rattle.base_words.specs.declared.named.Named.TheVariants.{Number, Name}

-- a name with its `-`, and without leading zeros
abbrev pub name_text : ℕ → List ℕ
name_text k = 45 ∷ decimal k

-- a number without `#` and leading zeros, or a name
abbrev pub bug_text : Named → List ℕ
bug_text (Number n) = decimal n
bug_text (Name k) = name_text k

-- a version with a source is written `source/version`
abbrev pub version_text : VersionArg → List ℕ
version_text version = option_map_or (λ source. source ++ 47 ∷ version.version) version.source version.version

abbrev pub who_text : Who → List ℕ
who_text Sender = codes "!"
who_text (Given text) = text

-- a step's own sign goes before its tag
abbrev pub step_text : TagStep → List ℕ
step_text (Add tag) = 43 ∷ tag_name tag
step_text (Remove tag) = 45 ∷ tag_name tag
step_text Clear = codes "="

-- a word for each step; for no step a sign alone
abbrev pub step_words : List TagStep → List (List ℕ)
step_words [] = codes "+" ∷ []
step_words (step ∷ more) = map step_text (step ∷ more)

-- the sign of a step stands alone, before the packages
abbrev pub affects_sign : AffectsStep → List ℕ
affects_sign affecting.Add = codes "+"
affects_sign affecting.Remove = codes "-"
affects_sign affecting.Replace = codes "="

-- the word of a value, if there is one
abbrev pub word_if : {A : Type 0} → (A → List ℕ) → Option A → List (List ℕ)
word_if f None = []
word_if f (Some x) = f x ∷ []

-- words with one blank between them
abbrev pub joined_by_blanks : List (List ℕ) → List ℕ
joined_by_blanks words = join_with_byte 32 words

-- the command's word and its arguments, of which the last may be a text with blanks of its own
abbrev pub spelled_words : Command Named → List (List ℕ)
spelled_words (commands.Found bug version) = codes "found" ∷ bug_text bug ∷ word_if version_text version
spelled_words (commands.NotFound bug version) = codes "notfound" ∷ bug_text bug ∷ version_text version ∷ []
spelled_words (commands.Fixed bug version) = codes "fixed" ∷ bug_text bug ∷ version_text version ∷ []
spelled_words (commands.NotFixed bug version) = codes "notfixed" ∷ bug_text bug ∷ version_text version ∷ []
spelled_words (commands.Close bug version) = codes "close" ∷ bug_text bug ∷ word_if version_text version
spelled_words (commands.Reopen bug who) = codes "reopen" ∷ bug_text bug ∷ word_if who_text who
spelled_words (commands.Severity bug severity) = codes "severity" ∷ bug_text bug ∷ severity_name severity ∷ []
spelled_words (commands.Reassign bug package_name version) =
    codes "reassign" ∷ bug_text bug ∷ package_name ∷ word_if version_text version
spelled_words (commands.Tags bug steps) = codes "tags" ∷ bug_text bug ∷ step_words steps
spelled_words (commands.Retitle bug text) = codes "retitle" ∷ bug_text bug ∷ text ∷ []
spelled_words (commands.Submitter bug who) = codes "submitter" ∷ bug_text bug ∷ who_text who ∷ []
spelled_words (commands.Merge bug others) = codes "merge" ∷ bug_text bug ∷ map bug_text others
spelled_words (commands.ForceMerge bug others) = codes "forcemerge" ∷ bug_text bug ∷ map bug_text others
spelled_words (commands.Unmerge bug) = codes "unmerge" ∷ bug_text bug ∷ []
spelled_words (commands.Clone bug names) = codes "clone" ∷ bug_text bug ∷ map name_text names
spelled_words (commands.Block bug others) = codes "block" ∷ bug_text bug ∷ codes "by" ∷ map bug_text others
spelled_words (commands.Unblock bug others) = codes "unblock" ∷ bug_text bug ∷ codes "by" ∷ map bug_text others
spelled_words (commands.Forwarded bug text) = codes "forwarded" ∷ bug_text bug ∷ text ∷ []
spelled_words (commands.NotForwarded bug) = codes "notforwarded" ∷ bug_text bug ∷ []
spelled_words (commands.Owner bug who) = codes "owner" ∷ bug_text bug ∷ who_text who ∷ []
spelled_words (commands.NoOwner bug) = codes "noowner" ∷ bug_text bug ∷ []
spelled_words (commands.Archive bug) = codes "archive" ∷ bug_text bug ∷ []
spelled_words (commands.Unarchive bug) = codes "unarchive" ∷ bug_text bug ∷ []
spelled_words (commands.Affects bug step names) = codes "affects" ∷ bug_text bug ∷ affects_sign step ∷ names

unfoldable pub spelling : Command Named → List ℕ
spelling command = joined_by_blanks (spelled_words command)
