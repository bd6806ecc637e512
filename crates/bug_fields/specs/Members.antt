-- Members of a set of merged bugs, as a command changes them (the BTS page 'control and
-- manipulation').
use Rattle.std.specs.Prelude.{ℕ, Bool, true, false, not, List, Some, unwrap_or}
use Rattle.bug_record.specs.Steps.{new_title, new_submitter}
use Rattle.bug_record.specs.declared.bug.Member.{Member}
use Rattle.bug_record.specs.declared.bug.Shared.{Shared}
use Rattle.bug_record.specs.declared.command.Command.{Command}
use Rattle.bug_record.specs.declared.command.Command.TheVariants as commands

-- what a command of this sender makes of a member of a set with these shared fields: the title and
-- the submitter are new where the command gives them
abbrev pub member_after : List ℕ → Command ℕ → Shared → Member → Member
member_after sender command f m = record m {
  title = unwrap_or (new_title command m.number) m.title;
  submitter = unwrap_or (new_submitter sender command f m.number) m.submitter;
}

-- whether a command gives a title or a submitter to some bug, of a set with these shared fields
abbrev pub changes_members : Command ℕ → Shared → Bool
changes_members (commands.Retitle n text) f = true
changes_members (commands.Submitter n who) f = true
changes_members (commands.Reopen n (Some who)) f = f.closed
changes_members command f = false

-- whether a command changes records of one set, with these shared fields, and no title and no
-- submitter of it
abbrev pub leaves_members : Command ℕ → Shared → Bool
leaves_members (commands.Merge n ns) f = false
leaves_members (commands.ForceMerge n ns) f = false
leaves_members (commands.Unmerge n) f = false
leaves_members (commands.Clone n ks) f = false
leaves_members command f = not (changes_members command f)
