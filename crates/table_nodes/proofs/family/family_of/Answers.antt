use Rattle.table_schema.proofs.Exports.{◌≡◌, Err, ◌∙◌, rules}
use Rattle.table_nodes.proofs.family.family_of.Goals as goal

pub returns-in_err-tree-clause-memory : goal.returns-in_err-tree-clause-memory
returns-in_err-tree-clause-memory c t forest are =
    let told : c.from_residual.result ≡ Err c.in_err-tree.field-0.0 = search rules in
    rw told (c.in_err-tree.ensures.memory t forest are)

pub returns-in-Ok-clause-value : goal.returns-in-Ok-clause-value
returns-in-Ok-clause-value c t forest are = c.in-Ok.ensures ∙ c.in_ok-tree.ensures.value t forest are
