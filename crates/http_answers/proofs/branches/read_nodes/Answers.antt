use Rattle.std.proofs.Common.{◌≡◌, ◌∙◌, ap, ℕ, List, string_bytes, subst, arith, rules, Err, Ok}
use Rattle.version_nodes.specs.Nodes.{node_of_text}
use Rattle.message_directives.specs.BranchWords.{IsNodeAdded}
use Rattle.http_answers.proofs.NodesLemmas.{nodes_more, nodes_unread}
use Rattle.http_answers.proofs.branches.read_nodes.Goals as goal

pub returns-in_err-add_node : goal.returns-in_err-add_node
returns-in_err-add_node c =
    let told : c.from_residual.result ≡ Err c.in_err-add_node.field-0.0 = search rules in
    rw told (nodes_unread c.loop-word.nodes.items c.add_node.new.nodes.items c.args.words.now c.loop-word.word-index
    c.word-item.result c.in_err-add_node.field-0.0 c.loop-word.invariant (omega (arith, c.loop-word-test.true))
    (subst (λ (text : List ℕ). IsNodeAdded (node_of_text text) c.loop-word.nodes.items c.add_node.new.nodes.items
    (Err c.in_err-add_node.field-0.0)) (c.as_str.ensures.value ∙ ap string_bytes c.word-item.is) c.in_err-add_node.ensures))

pub loop-word-preserved : goal.loop-word-preserved
loop-word-preserved c =
    c.loop-word.invariant
    ∙ nodes_more c.loop-word.nodes.items c.add_node.new.nodes.items c.args.words.now c.loop-word.word-index
    c.word-item.result (omega (arith, c.loop-word-test.true))
    (subst (λ (text : List ℕ). IsNodeAdded (node_of_text text) c.loop-word.nodes.items c.add_node.new.nodes.items (Ok tt))
    (c.as_str.ensures.value ∙ ap string_bytes c.word-item.is) c.in_ok-add_node.ensures)
