use Rattle.std.proofs.Common.{rules}
use Rattle.std.specs.Prelude.{not}
use Rattle.std.proofs.lemmas.Fn.{filter_same}
use Rattle.version_nodes.specs.Nodes.{same_node}
use Rattle.bug_record.proofs.nodes.remove_node.Goals as goal

pub returns : goal.returns
returns c = filter_same _ (λ m. not (same_node c.args.node.now m)) _ (λ x b f' k. search rules) _ _ c.retain.ensures
