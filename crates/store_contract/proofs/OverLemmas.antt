-- What a command over other bugs has, by what the command has.
use Rattle.std.proofs.Common.{◌≡◌, List, [], ◌∷◌, refl}
use Rattle.std.specs.Prelude.{map}
use Rattle.bug_record.specs.Sets.{Each}
use Rattle.bug_record.specs.Commands.{HasGoodParts, bug_named, other_bugs, bugs_named, names_in, command_over}
use Rattle.bug_record.specs.Words.{first_may_be_archived, others_may_be_archived}
use Rattle.bug_record.specs.declared.command.Command.{Command}
use Rattle.bug_record.specs.declared.command.Command.TheVariants as commands

-- the bug that a command over others names
pub bug-over : {N M : Type 0} (f : N → M) (command : Command N) → bug_named (command_over f command) ≡ f (bug_named command)
bug-over f (commands.Found n version) = refl
bug-over f _ = refl

-- whether that bug may be archived
pub may-over : {N M : Type 0} (f : N → M) (command : Command N) → first_may_be_archived (command_over f command) ≡ first_may_be_archived command
may-over f (commands.Found n version) = refl
may-over f _ = refl

-- whether those that it names besides may be
pub others-may-over : {N M : Type 0} (f : N → M) (command : Command N) → others_may_be_archived (command_over f command) ≡ others_may_be_archived command
others-may-over f (commands.Found n version) = refl
others-may-over f _ = refl

-- the bugs that it names besides
pub others-over : {N M : Type 0} (f : N → M) (command : Command N) → other_bugs (command_over f command) ≡ map f (other_bugs command)
others-over f (commands.Found n version) = refl
others-over f _ = refl

-- the names that it gives
pub names-over : {N M : Type 0} (f : N → M) (command : Command N) → names_in (command_over f command) ≡ names_in command
names-over f (commands.Found n version) = refl
names-over f _ = refl

-- the parts of a command that is meant are those of the command
pub parts-over : {N M : Type 0} (f : N → M) (command : Command N) → HasGoodParts command → HasGoodParts (command_over f command)
parts-over f (commands.Found n version) h = h
parts-over f _ h = h

map-agree : {N M K : Type 0} (f : N → M) (g : M → K) (h : N → K) (ns : List N) → Each (λ n. g (f n) ≡ h n) ns
    → map g (map f ns) ≡ map h ns
map-agree f g h [] e = refl
map-agree f g h (n ∷ ns) e = λ i. e.0 i ∷ map-agree f g h ns e.1 i

-- the same command over numbers that are the same
pub over-agree : {N M K : Type 0} (f : N → M) (g : M → K) (h : N → K) (command : Command N)
    → Each (λ n. g (f n) ≡ h n) (bugs_named command) → command_over g (command_over f command) ≡ command_over h command
over-agree f g h (commands.Found n version) e = λ i. commands.Found (e.0 i) version
over-agree f g h (commands.NotFound n version) e = λ i. commands.NotFound (e.0 i) version
over-agree f g h (commands.Fixed n version) e = λ i. commands.Fixed (e.0 i) version
over-agree f g h (commands.NotFixed n version) e = λ i. commands.NotFixed (e.0 i) version
over-agree f g h (commands.Close n version) e = λ i. commands.Close (e.0 i) version
over-agree f g h (commands.Reopen n who) e = λ i. commands.Reopen (e.0 i) who
over-agree f g h (commands.Severity n severity) e = λ i. commands.Severity (e.0 i) severity
over-agree f g h (commands.Tags n steps) e = λ i. commands.Tags (e.0 i) steps
over-agree f g h (commands.Retitle n text) e = λ i. commands.Retitle (e.0 i) text
over-agree f g h (commands.Submitter n who) e = λ i. commands.Submitter (e.0 i) who
over-agree f g h (commands.Reassign n package_name version) e = λ i. commands.Reassign (e.0 i) package_name version
over-agree f g h (commands.Merge n ns) e = λ i. commands.Merge (e.0 i) (map-agree f g h ns e.1 i)
over-agree f g h (commands.ForceMerge n ns) e = λ i. commands.ForceMerge (e.0 i) (map-agree f g h ns e.1 i)
over-agree f g h (commands.Unmerge n) e = λ i. commands.Unmerge (e.0 i)
over-agree f g h (commands.Clone n ks) e = λ i. commands.Clone (e.0 i) ks
over-agree f g h (commands.Block n ns) e = λ i. commands.Block (e.0 i) (map-agree f g h ns e.1 i)
over-agree f g h (commands.Unblock n ns) e = λ i. commands.Unblock (e.0 i) (map-agree f g h ns e.1 i)
over-agree f g h (commands.Forwarded n text) e = λ i. commands.Forwarded (e.0 i) text
over-agree f g h (commands.NotForwarded n) e = λ i. commands.NotForwarded (e.0 i)
over-agree f g h (commands.Owner n who) e = λ i. commands.Owner (e.0 i) who
over-agree f g h (commands.NoOwner n) e = λ i. commands.NoOwner (e.0 i)
over-agree f g h (commands.Archive n) e = λ i. commands.Archive (e.0 i)
over-agree f g h (commands.Unarchive n) e = λ i. commands.Unarchive (e.0 i)
over-agree f g h (commands.Affects n step names) e = λ i. commands.Affects (e.0 i) step names
