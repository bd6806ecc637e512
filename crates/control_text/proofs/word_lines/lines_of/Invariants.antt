use Rattle.std.proofs.Common.{map}
use Rattle.control_text.specs.Writer.{state_of}
use Rattle.control_text.proofs.ReadLemmas.{HasRead}
use Rattle.control_text.proofs.word_lines.lines_of.Given as goal

abbrev pub invariant-loop-place : goal.invariant-loop-place
invariant-loop-place l = HasRead (map (λ s. s.now) l.words) l.place (state_of l.writer)
