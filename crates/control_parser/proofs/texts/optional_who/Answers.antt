use Rattle.std.proofs.Common.{rules}
use Rattle.control_parser.proofs.texts.optional_who.Goals as goal

pub returns : goal.returns
returns c = search rules

pub returns-in_err-read_who : goal.returns-in_err-read_who
returns-in_err-read_who c = search rules

pub returns-then-is_empty : goal.returns-then-is_empty
returns-then-is_empty c = search rules
