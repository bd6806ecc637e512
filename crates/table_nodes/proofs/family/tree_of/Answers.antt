use Rattle.table_schema.proofs.Exports.{◌≡◌, Err, sym, subst, rules, IsPermutation}
use Rattle.table_nodes.proofs.family.tree_of.Goals as goal

pub returns-in_err-links-clause-memory : goal.returns-in_err-links-clause-memory
returns-in_err-links-clause-memory c t forest are =
    let told : c.from_residual.result ≡ Err c.in_err-links.field-0.0 = search rules in
    rw told (c.in_err-links.ensures.memory are.links are.valid are.are)

pub returns-in-Ok-Some-clause-value : goal.returns-in-Ok-Some-clause-value
returns-in-Ok-Some-clause-value c t forest are =
    let made = c.in-Ok-Some.ensures.tree t forest
    (subst (IsPermutation t) (sym (c.in_ok-links.ensures.value are.links are.valid are.are)) are.same) in
    cc

pub returns-in-Ok-None-clause-memory : goal.returns-in-Ok-None-clause-memory
returns-in-Ok-None-clause-memory c t forest are =
    let made = c.in-Ok-None.ensures.tree t forest
    (subst (IsPermutation t) (sym (c.in_ok-links.ensures.value are.links are.valid are.are)) are.same) in
    absurd cc
