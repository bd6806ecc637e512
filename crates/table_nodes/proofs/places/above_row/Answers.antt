use Rattle.table_schema.proofs.Exports.{rules}
use Rattle.table_nodes.proofs.places.above_row.Goals as goal

pub returns-in-Some-checked_add-clause-value : goal.returns-in-Some-checked_add-clause-value
returns-in-Some-checked_add-clause-value c = search rules
