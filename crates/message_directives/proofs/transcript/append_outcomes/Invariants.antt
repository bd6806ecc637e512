use Rattle.std.proofs.Common.{◌≡◌, ◌++◌, drop}
use Rattle.std.specs.Prelude.{IsUtf8}
use Rattle.message_directives.specs.Transcripts.{transcript}
use Rattle.message_directives.proofs.transcript.append_outcomes.Given as goal

abbrev pub invariant-loop-entry : goal.invariant-loop-entry
invariant-loop-entry l = record {
  text : l.out.items ++ transcript (drop l.entry-index l.outcomes) ≡ l.fn.out.items ++ transcript l.outcomes;
  utf8 : IsUtf8 l.fn.out.items → IsUtf8 l.out.items;
}
