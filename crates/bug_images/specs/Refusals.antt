-- What is tested of a bug before a command of it is planned.
use Rattle.std.specs.Prelude.{ℕ, List, Option, Ok}
use Rattle.std.specs.Option.{option_or}
use Rattle.version_nodes.specs.Nodes.{Node}
use Rattle.bug_record.specs.Bugs.{first_of}
use Rattle.bug_record.specs.Images.{numbers_of, bug_in}
use Rattle.bug_record.specs.Words.{words_refusal}
use Rattle.bug_record.specs.Steps.{own_tests}
use Rattle.bug_record.specs.declared.bug.SetImage.{SetImage}
use Rattle.bug_record.specs.declared.command.Command.{Command}
use Rattle.bug_record.specs.declared.command.Refusal.{Refusal}

-- the first refusal of a command's bug words, or else of its own tests of the set of this image,
-- where this is the open head
abbrev pub records_refusal : Command ℕ → Option Node → List SetImage → SetImage → Option Refusal
records_refusal command head images i =
    option_or (words_refusal (λ n. Ok n) (bug_in images) command)
    (first_of (own_tests command head (numbers_of i.members) i.shared))
