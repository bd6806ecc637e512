use Rattle.table_schema.proofs.Exports.{option_map, ap, subst, ◌∙◌, state, Node, IsNode, IfGiven, outcome_number, outcome_field, outcome_node, acts_write, serves_write, maybe_bound}
use Rattle.table_nodes.proofs.OutcomeStatements.{add_is, number_bound}
use Rattle.table_nodes.proofs.outcomes.add_outcome.Goals as goal

pub returns-clause-plays : goal.returns-clause-plays
returns-clause-plays g c =
    let o = c.args.outcome.now in
    let node = c.node_of_outcome-node.ensures in
    let valid : IfGiven IsNode (outcome_node o) = subst (IfGiven IsNode) node c.source_of.ensures.valid in
    rw c.written.ensures.told (acts_write _ _ _ _ (add_is c.args.id.now c.args.place o c.utf8.id valid) (state g.S.Store c.args.tx.now.conn.now) (state g.S.Store c.execute.new.self.conn.now) c.execute.result c.execute.ensures.survives
    (rw (
      c.params-to_sql.ensures,
      c.params-to_sql-2.ensures,
      c.params-to_sql-3.ensures,
      c.params-to_sql-4.ensures,
      c.params-to_sql-5.ensures,
      c.params-to_sql-6.ensures,
      c.params-to_sql-7.ensures,
      c.kind_of_outcome.ensures,
      number_bound c.in_ok-number.number (outcome_number o) (c.in_ok-number.ensures.same ∙ c.number_of_outcome.ensures),
      number_bound c.field_of_outcome.result (outcome_field o) c.field_of_outcome.ensures,
      maybe_bound c.source_of.result (option_map (λ (v : Node). v.source) (outcome_node o)) (c.source_of.ensures.value ∙ ap (option_map (λ (v : Node). v.source)) node),
      maybe_bound c.version_of.result (option_map (λ (v : Node). v.version) (outcome_node o)) (c.version_of.ensures.value ∙ ap (option_map (λ (v : Node). v.version)) node),
    ) at c.execute.ensures.runs))

pub returns-clause-serves : goal.returns-clause-serves
returns-clause-serves g c =
    rw c.written.ensures.told (serves_write _ _ (state g.S.Store c.args.tx.now.conn.now) (state g.S.Store c.execute.new.self.conn.now) c.execute.result c.execute.ensures.runs)
