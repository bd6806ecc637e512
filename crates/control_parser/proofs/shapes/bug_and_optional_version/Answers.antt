use Rattle.std.proofs.Common.{rules}
use Rattle.control_parser.proofs.shapes.bug_and_optional_version.Goals as goal

pub returns : goal.returns
returns c = search rules

pub returns-in_err-bug : goal.returns-in_err-bug
returns-in_err-bug c = search rules

pub returns-in_err-version : goal.returns-in_err-version
returns-in_err-version c = search rules

pub returns-in_err-first : goal.returns-in_err-first
returns-in_err-first c = search rules

pub returns-in_err-read_bug : goal.returns-in_err-read_bug
returns-in_err-read_bug c = search rules
