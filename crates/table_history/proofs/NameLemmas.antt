-- The names that are looked for are those of the tables that are made.
use Rattle.table_history.proofs.Imports.{desk_names, has_desk_table}
use Rattle.table_schema.proofs.Exports.{◌≡◌, map, true, refl, Table, desk_schema}
use Rattle.sqlite_schema.specs.Names.{same_name}

pub names_are : desk_names ≡ map (λ (t : Table). t.name) desk_schema.tables
names_are = refl

pub desk_has_them : has_desk_table desk_schema ≡ true
unfolding same_name
desk_has_them = refl
