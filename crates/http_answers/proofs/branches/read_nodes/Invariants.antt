use Rattle.std.proofs.Common.{◌≡◌, map, string_bytes}
use Rattle.message_directives.specs.Branches.{nodes_of}
use Rattle.http_answers.proofs.NodesLemmas.{nodes_from}
use Rattle.http_answers.proofs.branches.read_nodes.Given as goal

abbrev pub invariant-loop-word : goal.invariant-loop-word
invariant-loop-word l = nodes_of (map string_bytes l.words) ≡ nodes_from l.nodes.items l.words l.word-index
