use Rattle.std.proofs.Common.{◌≡◌, ◌++◌, drop}
use Rattle.std.specs.String.{string_bytes}
use Rattle.program_options.specs.Message.{with_feeds}
use Rattle.program_options.proofs.text.add_lines.Given as goal

abbrev pub invariant-loop-line : goal.invariant-loop-line
invariant-loop-line l =
    string_bytes l.text ++ with_feeds (drop l.line-index l.lines) ≡ string_bytes l.fn.text ++ with_feeds l.lines
