-- The parts of commands: the bug that one names, and the limits of what it gives.
-- This project's own rule.
use Rattle.std.specs.Prelude.{ℕ, IsTrue, List, [], ◌∷◌, map, unwrap_or, ⊤}
use Rattle.std.specs.Str.{is_utf8}
use Rattle.debver.specs.Names.{IsName}
use Rattle.debver.specs.Cut.{IsVersion}
use Rattle.version_nodes.specs.Nodes.{Node, node}
use Rattle.base_sequences.specs.Sets.{Each}
use Rattle.base_words.specs.Texts.{IsText, IfGiven}
use Rattle.bug_record.specs.declared.command.Command.{Command}
use Rattle.bug_record.specs.declared.command.Command.TheVariants as commands
use Rattle.bug_record.specs.declared.command.VersionArg.{VersionArg}
use Rattle.bug_record.specs.declared.command.Who.{Who}
use Rattle.bug_record.specs.declared.command.Who.TheVariants.{Sender, Given}

-- the node that a version means for a package: its own source goes before the package
abbrev pub node_meant : List ℕ → VersionArg → Node
node_meant package_name version = node (unwrap_or version.source package_name) version.version

-- who is meant, where this is the sender
abbrev pub person : List ℕ → Who → List ℕ
person sender Sender = sender
person sender (Given text) = text

pub record IsGoodVersion (arg : VersionArg) : Type 0 where
  pub source : IfGiven IsName arg.source
  pub version : IsVersion arg.version

abbrev pub IsGoodPerson : Who → Type 0
IsGoodPerson Sender = ⊤
IsGoodPerson (Given text) = IsText text

-- the versions, package names and texts of a command are within their limits
abbrev pub HasGoodParts : {N : Type 0} → Command N → Type 0
HasGoodParts (commands.Found n version) = IfGiven IsGoodVersion version
HasGoodParts (commands.NotFound n version) = IsGoodVersion version
HasGoodParts (commands.Fixed n version) = IsGoodVersion version
HasGoodParts (commands.NotFixed n version) = IsGoodVersion version
HasGoodParts (commands.Close n version) = IfGiven IsGoodVersion version
HasGoodParts (commands.Reopen n who) = IfGiven IsGoodPerson who
HasGoodParts (commands.Severity n severity) = ⊤
HasGoodParts (commands.Tags n steps) = ⊤
HasGoodParts (commands.Retitle n text) = IsText text
HasGoodParts (commands.Submitter n who) = IsGoodPerson who
HasGoodParts (commands.Reassign n package_name version) = IsName package_name × IfGiven IsGoodVersion version
HasGoodParts (commands.Merge n ns) = ⊤
HasGoodParts (commands.ForceMerge n ns) = ⊤
HasGoodParts (commands.Unmerge n) = ⊤
HasGoodParts (commands.Clone n ks) = ⊤
HasGoodParts (commands.Block n ns) = ⊤
HasGoodParts (commands.Unblock n ns) = ⊤
HasGoodParts (commands.Forwarded n text) = IsText text
HasGoodParts (commands.NotForwarded n) = ⊤
HasGoodParts (commands.Owner n who) = IsGoodPerson who
HasGoodParts (commands.NoOwner n) = ⊤
HasGoodParts (commands.Archive n) = ⊤
HasGoodParts (commands.Unarchive n) = ⊤
HasGoodParts (commands.Affects n step names) = Each IsName names

abbrev pub IsUtf8Person : Who → Type 0
IsUtf8Person Sender = ⊤
IsUtf8Person (Given text) = IsTrue (is_utf8 text)

-- the texts that a command gives are UTF-8
abbrev pub HasUtf8Texts : {N : Type 0} → Command N → Type 0
HasUtf8Texts (commands.Reopen n who) = IfGiven IsUtf8Person who
HasUtf8Texts (commands.Retitle n text) = IsTrue (is_utf8 text)
HasUtf8Texts (commands.Submitter n who) = IsUtf8Person who
HasUtf8Texts (commands.Forwarded n text) = IsTrue (is_utf8 text)
HasUtf8Texts (commands.Owner n who) = IsUtf8Person who
HasUtf8Texts command = ⊤

-- the bug that a command names first
abbrev pub bug_named : {N : Type 0} → Command N → N
bug_named (commands.Found n version) = n
bug_named (commands.NotFound n version) = n
bug_named (commands.Fixed n version) = n
bug_named (commands.NotFixed n version) = n
bug_named (commands.Close n version) = n
bug_named (commands.Reopen n who) = n
bug_named (commands.Severity n severity) = n
bug_named (commands.Tags n steps) = n
bug_named (commands.Retitle n text) = n
bug_named (commands.Submitter n who) = n
bug_named (commands.Reassign n package_name version) = n
bug_named (commands.Merge n ns) = n
bug_named (commands.ForceMerge n ns) = n
bug_named (commands.Unmerge n) = n
bug_named (commands.Clone n ks) = n
bug_named (commands.Block n ns) = n
bug_named (commands.Unblock n ns) = n
bug_named (commands.Forwarded n text) = n
bug_named (commands.NotForwarded n) = n
bug_named (commands.Owner n who) = n
bug_named (commands.NoOwner n) = n
bug_named (commands.Archive n) = n
bug_named (commands.Unarchive n) = n
bug_named (commands.Affects n step names) = n

-- the bugs that it names besides
abbrev pub other_bugs : {N : Type 0} → Command N → List N
other_bugs (commands.Merge n ns) = ns
other_bugs (commands.ForceMerge n ns) = ns
other_bugs (commands.Block n ns) = ns
other_bugs (commands.Unblock n ns) = ns
other_bugs command = []

-- the bugs that a command names, in the order written
abbrev pub bugs_named : {N : Type 0} → Command N → List N
bugs_named command = bug_named command ∷ other_bugs command

-- the names that a command gives, in the order written
abbrev pub names_in : {N : Type 0} → Command N → List ℕ
names_in (commands.Clone n ks) = ks
names_in command = []

-- the same command of the bugs that are meant
abbrev pub command_over : {N M : Type 0} → (N → M) → Command N → Command M
command_over f (commands.Found n version) = commands.Found (f n) version
command_over f (commands.NotFound n version) = commands.NotFound (f n) version
command_over f (commands.Fixed n version) = commands.Fixed (f n) version
command_over f (commands.NotFixed n version) = commands.NotFixed (f n) version
command_over f (commands.Close n version) = commands.Close (f n) version
command_over f (commands.Reopen n who) = commands.Reopen (f n) who
command_over f (commands.Severity n severity) = commands.Severity (f n) severity
command_over f (commands.Tags n steps) = commands.Tags (f n) steps
command_over f (commands.Retitle n text) = commands.Retitle (f n) text
command_over f (commands.Submitter n who) = commands.Submitter (f n) who
command_over f (commands.Reassign n package_name version) = commands.Reassign (f n) package_name version
command_over f (commands.Merge n ns) = commands.Merge (f n) (map f ns)
command_over f (commands.ForceMerge n ns) = commands.ForceMerge (f n) (map f ns)
command_over f (commands.Unmerge n) = commands.Unmerge (f n)
command_over f (commands.Clone n ks) = commands.Clone (f n) ks
command_over f (commands.Block n ns) = commands.Block (f n) (map f ns)
command_over f (commands.Unblock n ns) = commands.Unblock (f n) (map f ns)
command_over f (commands.Forwarded n text) = commands.Forwarded (f n) text
command_over f (commands.NotForwarded n) = commands.NotForwarded (f n)
command_over f (commands.Owner n who) = commands.Owner (f n) who
command_over f (commands.NoOwner n) = commands.NoOwner (f n)
command_over f (commands.Archive n) = commands.Archive (f n)
command_over f (commands.Unarchive n) = commands.Unarchive (f n)
command_over f (commands.Affects n step names) = commands.Affects (f n) step names
