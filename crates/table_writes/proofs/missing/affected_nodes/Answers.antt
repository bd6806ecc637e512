use Rattle.table_writes.proofs.RowSteps.{all_known}
use Rattle.table_writes.proofs.missing.affected_nodes.Goals as goal

pub returns-clause-known : goal.returns-clause-known
returns-clause-known c = all_known c.args.family.now _ c.in_ok-affected.field-0.items c.in_ok-affected.ensures.nodes
