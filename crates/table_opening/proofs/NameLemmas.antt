-- The names of a desk's tables, under each of its schemas.
use Rattle.std.proofs.Common.{◌≡◌, ◌<◌, ◌≤◌, ℕ, zero, suc, true, arith, refl}
use Rattle.sqlite_schema.specs.Names.{same_name}
use Rattle.table_history.specs.History.{schema_at}
use Rattle.table_history.specs.Names.{has_desk_table}
use Rattle.table_history.specs.declared.history.TheConstants.{NEWEST}

-- each schema of a desk has one of its tables
pub desk_table : (k : ℕ) → 0 < k → k ≤ NEWEST → has_desk_table (schema_at k) ≡ true
unfolding same_name
desk_table zero some known = absurd (omega arith)
desk_table (suc zero) some known = refl
desk_table (suc (suc zero)) some known = refl
desk_table (suc (suc (suc zero))) some known = refl
desk_table (suc (suc (suc (suc k)))) some known = absurd (omega arith)
