use Rattle.table_nodes.proofs.Imports.{AreOutcomeRows}
use Rattle.table_schema.proofs.Exports.{◌≡◌, List, take, ToldOutcome}
use Rattle.table_nodes.proofs.outcomes.outcomes_of.Given as goal

abbrev pub invariant-loop-row : goal.invariant-loop-row
invariant-loop-row l = (ts : List ToldOutcome) → AreOutcomeRows l.rows ts → l.outcomes ≡ take l.row-index ts
