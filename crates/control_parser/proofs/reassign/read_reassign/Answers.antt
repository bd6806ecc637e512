use Rattle.std.proofs.Common.{rules}
use Rattle.control_parser.proofs.reassign.read_reassign.Goals as goal

pub returns-in_err-bug : goal.returns-in_err-bug
returns-in_err-bug c = search rules

pub returns-in_err-package : goal.returns-in_err-package
returns-in_err-package c = search rules

pub returns-in_err-version : goal.returns-in_err-version
returns-in_err-version c = search rules

pub returns-in_err-first : goal.returns-in_err-first
returns-in_err-first c = search rules
