-- Commands that can be written.
-- This project's own rule.
use Rattle.std.specs.Prelude.{ℕ, ◌≡◌, ◌<◌, List, length, Option, Some, None, codes, ⊤}
use Rattle.bug_record.specs.Sets.{Each}
use Rattle.bug_record.specs.Commands.{bugs_named, HasGoodParts}
use Rattle.bug_record.specs.declared.command.Command.{Command}
use Rattle.bug_record.specs.declared.command.Command.TheVariants as commands
use Rattle.bug_record.specs.declared.command.AffectsStep.{AffectsStep}
use Rattle.bug_record.specs.declared.command.AffectsStep.TheVariants as affecting
use Rattle.bug_record.specs.declared.command.Who.{Who}
use Rattle.bug_record.specs.declared.command.Who.TheVariants.{Sender, Given}
use Rattle.base_words.specs.Numbers.{IsGoodNumber}
use Rattle.base_words.specs.Bugs.{IsGoodBug}
use Rattle.control_grammar.specs.declared.line.Line.{Line}
use Rattle.control_grammar.specs.declared.line.Line.TheVariants.{Do}
use Rattle.base_words.specs.declared.named.Named.{Named}

-- The word `!` stands for the sender, and is nobody's address.
abbrev pub IsAddress : Who → Type 0
IsAddress Sender = ⊤
IsAddress (Given text) = ¬ (text ≡ codes "!")

-- For the submitter of a bug that is opened again `=` stands for nobody.
abbrev pub IsPlain : Option Who → Type 0
IsPlain None = ⊤
IsPlain (Some Sender) = ⊤
IsPlain (Some (Given text)) = (¬ (text ≡ codes "!")) × (¬ (text ≡ codes "="))

-- What adds packages or takes them out gives one.
abbrev pub HasPackages : AffectsStep → List (List ℕ) → Type 0
HasPackages affecting.Add names = 0 < length names
HasPackages affecting.Remove names = 0 < length names
HasPackages affecting.Replace names = ⊤

-- No text that is given for somebody stands for somebody else, a merge, a `block` and an `unblock`
-- name a second bug, `clone` gives a name and none beyond the limits, and `affects` gives a package
-- unless it replaces all.
abbrev pub IsSpellable : Command Named → Type 0
IsSpellable (commands.Reopen bug who) = IsPlain who
IsSpellable (commands.Submitter bug who) = IsAddress who
IsSpellable (commands.Owner bug who) = IsAddress who
IsSpellable (commands.Merge bug others) = 0 < length others
IsSpellable (commands.ForceMerge bug others) = 0 < length others
IsSpellable (commands.Clone bug names) = Each IsGoodNumber names × (0 < length names)
IsSpellable (commands.Block bug others) = 0 < length others
IsSpellable (commands.Unblock bug others) = 0 < length others
IsSpellable (commands.Found bug version) = ⊤
IsSpellable (commands.NotFound bug version) = ⊤
IsSpellable (commands.Fixed bug version) = ⊤
IsSpellable (commands.NotFixed bug version) = ⊤
IsSpellable (commands.Close bug version) = ⊤
IsSpellable (commands.Severity bug severity) = ⊤
IsSpellable (commands.Tags bug steps) = ⊤
IsSpellable (commands.Retitle bug text) = ⊤
IsSpellable (commands.Reassign bug package_name version) = ⊤
IsSpellable (commands.Unmerge bug) = ⊤
IsSpellable (commands.Forwarded bug text) = ⊤
IsSpellable (commands.NotForwarded bug) = ⊤
IsSpellable (commands.NoOwner bug) = ⊤
IsSpellable (commands.Archive bug) = ⊤
IsSpellable (commands.Unarchive bug) = ⊤
IsSpellable (commands.Affects bug step names) = HasPackages step names

-- The bugs' numbers or names, and the versions, names and texts, are within their limits, and the
-- command is spellable.
pub record IsWellFormed (command : Command Named) : Type 0 where
  pub bugs : Each IsGoodBug (bugs_named command)
  pub parts : HasGoodParts command
  pub spellable : IsSpellable command

-- a line's command can be written
abbrev pub IsWellFormedLine : Line → Type 0
IsWellFormedLine (Do command) = IsWellFormed command
IsWellFormedLine line = ⊤
