-- What a store answers before a command is planned.
use Rattle.std.specs.Prelude.{ℕ, List, Option}
use Rattle.version_nodes.specs.Nodes.{Node}
use Rattle.bug_record.specs.Desk.{Desk}
use Rattle.bug_record.specs.Commands.{bugs_named}
use Rattle.bug_record.specs.Plans.{IsOpenHeadFor}
use Rattle.bug_record.specs.declared.bug.SetImage.{SetImage}
use Rattle.bug_record.specs.declared.command.Command.{Command}
use Rattle.message_plans.specs.Images.{ShowBugs}

-- images that show the command's bugs, and the open head of the bug that it is to archive
abbrev pub IsAnswered : Desk → Command ℕ → List SetImage × Option Node → Type 0
IsAnswered d command answers = ShowBugs d (bugs_named command) answers.0 × IsOpenHeadFor d command answers.1
