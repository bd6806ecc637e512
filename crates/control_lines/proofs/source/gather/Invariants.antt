use Rattle.std.proofs.Common.{◌≡◌, [], ◌++◌, ◌≤◌, length, false}
use Rattle.std.specs.List.{list_any}
use Rattle.control_lines.specs.Buffered.{bytes_left}
use Rattle.control_lines.specs.Reading.{Left}
use Rattle.control_lines.specs.Lines.{is_feed}
use Rattle.control_lines.proofs.source.gather.Given as goal

abbrev pub invariant-loop-line : goal.invariant-loop-line
invariant-loop-line g l = record {
  short : length l.line.items ≤ 65536;
  no_feed : list_any is_feed l.line.items ≡ false;
  no_end : list_any is_feed l.source.unread ≡ false;
  read : Left (g.R.Read.remaining l.fn.reader) (g.R.Read.remaining l.reader)
      (λ xs ys. l.fn.source.unread ++ xs ≡ l.line.items ++ (l.source.unread ++ ys));
  reads : l.source.reads_left ≤ l.fn.source.reads_left;
  no_more : bytes_left l.source ≤ bytes_left l.fn.source;
  unasked : l.source.reads_left ≡ l.fn.source.reads_left → l.reader ≡ l.fn.reader;
  spent : l.fn.source.unread ≡ [] → l.fn.source.reads_left ≡ 0 → (l.source ≡ l.fn.source) × (l.reader ≡ l.fn.reader);
}

abbrev pub decreases-loop-line : goal.decreases-loop-line
decreases-loop-line g l = l.source.reads_left
