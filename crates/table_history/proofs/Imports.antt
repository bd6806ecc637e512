-- The names that this crate's proofs cite, passed on from one place.
-- It declares nothing.
pub use Rattle.table_history.specs.History.{Step, history, schema_after, schema_at, texts, without, without_steps}
pub use Rattle.table_history.specs.Making.{Builds, IsBlank, IsDeskOf, IsUnder, no_rows, numbered_cells}
pub use Rattle.table_history.specs.Names.{desk_names, has_desk_table, no_tables}
pub use Rattle.table_history.specs.Number.{AreNumber, Asks, IsAnswer, IsRefused, ReadsSchema, Says, SaysNone, SaysSchema, number_text}
pub use Rattle.table_history.specs.Said.{IsSaid, ReadsRows, unless_foreign}
pub use Rattle.table_history.specs.Stages.{AreNumbered, HasRun, InTurn, IsBuilt, RunsStep, RunsSteps, RunsText}
pub use Rattle.sqlite_ast.specs.declared.Expr.{Expr, out-Expr}
pub use Rattle.sqlite_ast.specs.declared.Expr.TheOpen.{Expr-F, Shown-F}
pub use Rattle.sqlite_sql.specs.Term.{Term, col, lit}
pub use Rattle.sqlite_sql.specs.declared.ops.BinaryOp.TheVariants.{Compare}
