use Rattle.std.proofs.Common.{◌≡◌, length}
use Rattle.std.specs.Str.{IsUtf8}
use Rattle.base_words.specs.Words.{words}
use Rattle.message_directives.specs.Branches.{nodes_of}
use Rattle.message_directives.proofs.BranchLemmas.{after_nodes}
use Rattle.desk_run.proofs.branch.read_nodes.Given as goal

abbrev pub invariant-loop-word : goal.invariant-loop-word
invariant-loop-word l = record {
  text : IsUtf8 l.rest;
  nodes : after_nodes l.nodes.items (words l.rest) ≡ nodes_of (words l.text);
}

abbrev pub decreases-loop-word : goal.decreases-loop-word
decreases-loop-word l = length (words l.rest)
