use Rattle.std.proofs.Common.{◌≡◌, ◌++◌, map, length}
use Rattle.std.specs.Str.{IsUtf8}
use Rattle.control_lines.specs.Lines.{without_return, raw_lines, lines_of}
use Rattle.control_lines.proofs.lines.split_lines.Given as goal

abbrev pub invariant-loop-rest : goal.invariant-loop-rest
invariant-loop-rest l = record {
  text : IsUtf8 l.rest;
  lines : lines_of l.message ≡ l.lines.items ++ map without_return (raw_lines l.rest);
}

abbrev pub decreases-loop-rest : goal.decreases-loop-rest
decreases-loop-rest l = length l.rest
