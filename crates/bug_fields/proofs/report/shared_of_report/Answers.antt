use Rattle.std.proofs.Common.{false, None}
use Rattle.bug_fields.proofs.report.shared_of_report.Goals as goal

pub returns : goal.returns
returns c = λ j. record {
  «package» = c.in_ok-package_text.ensures j;
  severity = c.args.severity;
  closed = false;
  forwarded = None;
  owner = None;
  tags = c.new.ensures j;
  affects = c.new-2.ensures j;
  found = c.args.found;
  fixed = c.new-3.ensures j;
  blockers = c.new-4.ensures j;
  archived = false;
}
