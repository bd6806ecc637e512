use Rattle.table_schema.proofs.Imports.{arith}
use Rattle.table_schema.proofs.NodeTexts.{name_utf8, version_utf8}
use Rattle.table_schema.proofs.cells.node_at.Goals as goal

pub returns-in-Err-clause-memory : goal.returns-in-Err-clause-memory
returns-in-Err-clause-memory c v low is source version =
    c.in-Err.ensures.memory v.source (omega (arith, low)) source (name_utf8 v.source is.source)

pub returns-in-Err-str_at-clause-memory : goal.returns-in-Err-str_at-clause-memory
returns-in-Err-str_at-clause-memory c v low is source version =
    c.in-Err-str_at.ensures.memory v.version low version (version_utf8 v.version is.version)
