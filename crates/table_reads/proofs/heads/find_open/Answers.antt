use Rattle.std.proofs.Common.{◌≡◌, Some, drop, sym, ◌∙◌}
use Rattle.std.specs.List.{find}
use Rattle.sqlite.specs.Held.{state}
use Rattle.table_schema.proofs.ReadSteps.{known_then, known_weaker, known_answer}
use Rattle.table_reads.specs.Found.{is_found_at}
use Rattle.table_reads.proofs.OpenLemmas.{found_there, found_later, if_same}
use Rattle.table_reads.proofs.heads.find_open.Goals as goal

pub returns-then-branch-clause-reads : goal.returns-then-branch-clause-reads
returns-then-branch-clause-reads g c =
    let old = state g.S.Store c.args.tx.now.conn.now in
    let mid = state g.S.Store c.loop-node.tx.conn.now in
    let new = state g.S.Store c.read_found.new.tx.conn.now in
    known_answer old new c.some_node.result
    (λ k. (find (λ v. is_found_at k c.args.key v c.args.image.now.shared) (drop c.loop-node.node-index c.args.nodes.now) ≡ find (λ v. is_found_at k c.args.key v c.args.image.now.shared) c.args.nodes.now)
    × (c.in_ok-read_found.field-0 ≡ is_found_at k c.args.key c.node-item.result c.args.image.now.shared))
    (λ k node. node ≡ find (λ v. is_found_at k c.args.key v c.args.image.now.shared) c.args.nodes.now)
    (λ k p. (
      if_same c.some_node.result (λ node. node ≡ Some c.node-item.result) (λ node. node ≡ find (λ v. is_found_at k c.args.key v c.args.image.now.shared) c.args.nodes.now)
          (λ node e. e ∙ sym (found_there (λ v. is_found_at k c.args.key v c.args.image.now.shared) c.args.nodes.now c.loop-node.node-index c.node-item.result c.loop-node-test.true c.node-item.is (sym p.1 ∙ c.if-branch.true)) ∙ p.0)
          c.some_node.ensures.value,
      c.some_node.ensures.memory,
    ))
    (known_then old mid new c.in_ok-read_found.field-0
    (λ k. find (λ v. is_found_at k c.args.key v c.args.image.now.shared) (drop c.loop-node.node-index c.args.nodes.now) ≡ find (λ v. is_found_at k c.args.key v c.args.image.now.shared) c.args.nodes.now)
    (λ k found. found ≡ is_found_at k c.args.key c.node-item.result c.args.image.now.shared) c.loop-node.invariant.known c.in_ok-read_found.ensures.reads)

pub loop-node-preserved : goal.loop-node-preserved
loop-node-preserved g c = record {
  same = c.read_found.ensures.same_reference ∙ c.loop-node.invariant.same;
  known =
      let old = state g.S.Store c.args.tx.now.conn.now in
      let mid = state g.S.Store c.loop-node.tx.conn.now in
      let new = state g.S.Store c.read_found.new.tx.conn.now in
      known_weaker old new
      (λ k. (find (λ v. is_found_at k c.args.key v c.args.image.now.shared) (drop c.loop-node.node-index c.args.nodes.now) ≡ find (λ v. is_found_at k c.args.key v c.args.image.now.shared) c.args.nodes.now)
      × (c.in_ok-read_found.field-0 ≡ is_found_at k c.args.key c.node-item.result c.args.image.now.shared)) _
      (λ k p. sym (found_later (λ v. is_found_at k c.args.key v c.args.image.now.shared) c.args.nodes.now c.loop-node.node-index c.node-item.result c.loop-node-test.true c.node-item.is (sym p.1 ∙ c.if-branch.false)) ∙ p.0)
      (known_then old mid new c.in_ok-read_found.field-0
      (λ k. find (λ v. is_found_at k c.args.key v c.args.image.now.shared) (drop c.loop-node.node-index c.args.nodes.now) ≡ find (λ v. is_found_at k c.args.key v c.args.image.now.shared) c.args.nodes.now)
      (λ k found. found ≡ is_found_at k c.args.key c.node-item.result c.args.image.now.shared) c.loop-node.invariant.known c.in_ok-read_found.ensures.reads);
}
