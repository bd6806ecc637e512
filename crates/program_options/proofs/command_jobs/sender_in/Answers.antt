use Rattle.std.proofs.Common.{rules}
use Rattle.program_options.proofs.command_jobs.sender_in.Goals as goal

pub returns-in-Some : goal.returns-in-Some
returns-in-Some c = search rules
