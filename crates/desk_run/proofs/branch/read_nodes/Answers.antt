use Rattle.std.proofs.Common.{rules, ◌≡◌, ◌<◌, ℕ, List, ◌∷◌, length, Err, Global, sym, ap, ◌∙◌, refl, subst, arith}
use Rattle.base_words.specs.Words.{words}
use Rattle.version_nodes.specs.Nodes.{Node, node_of_text}
use Rattle.message_directives.specs.Branches.{nodes_of}
use Rattle.message_directives.proofs.BranchLemmas.{after_nodes, after_none, node_added, unread}
use Rattle.desk_run.proofs.BranchLemmas.{no_bytes, some_bytes, nodes-all}
use Rattle.desk_run.proofs.branch.read_nodes.Goals as goal

pub loop-word-init : goal.loop-word-init
loop-word-init c = record {
  text = c.utf8.text;
  nodes = ap (λ (ns : List Node). after_nodes ns (words c.args.text.now)) c.new-nodes.ensures.items
      ∙ after_none (nodes_of (words c.args.text.now));
}

pub returns-then-is_empty : goal.returns-then-is_empty
returns-then-is_empty c =
    nodes-all c.args.text.now c.loop-word.rest.now c.loop-word.nodes.items c.loop-word.invariant.nodes
    (c.next_word.ensures.none (no_bytes c.next_word.result.0.now (sym c.if-is_empty.ensures)))

pub returns-in_err-add_node : goal.returns-in_err-add_node
returns-in_err-add_node c =
    let told : c.from_residual.result ≡ Err c.in_err-add_node.field-0.0 = search rules in
    rw told (unread Global c.next_word.result.0.now (words c.next_word.result.1.now) (nodes_of (words c.args.text.now))
    c.loop-word.nodes.items c.add_node.new.nodes.items c.in_err-add_node.field-0.0
    (ap (after_nodes c.loop-word.nodes.items)
    (sym (c.next_word.ensures.first (some_bytes c.next_word.result.0.now (sym c.if-is_empty.ensures))))
    ∙ c.loop-word.invariant.nodes) c.in_err-add_node.ensures)

pub loop-word-smaller : goal.loop-word-smaller
loop-word-smaller c =
    let e : words c.loop-word.rest.now ≡ c.next_word.result.0.now ∷ words c.next_word.result.1.now =
    c.next_word.ensures.first (some_bytes c.next_word.result.0.now (sym c.if-is_empty.ensures)) in
    subst (λ (ws : List (List ℕ)). length (words c.next_word.result.1.now) < length ws) (sym e) (omega arith)

pub loop-word-preserved : goal.loop-word-preserved
loop-word-preserved c =
    let e : words c.loop-word.rest.now ≡ c.next_word.result.0.now ∷ words c.next_word.result.1.now =
    c.next_word.ensures.first (some_bytes c.next_word.result.0.now (sym c.if-is_empty.ensures)) in
    record {
      text = search rules;
      nodes =
          sym (node_added (node_of_text c.next_word.result.0.now) c.next_word.result.0.now (words c.next_word.result.1.now)
          c.loop-word.nodes.items c.add_node.new.nodes.items refl c.in_ok-add_node.ensures)
          ∙ ap (after_nodes c.loop-word.nodes.items) (sym e)
          ∙ c.loop-word.invariant.nodes;
    }
