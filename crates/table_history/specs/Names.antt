-- The names of a desk's tables.
use Rattle.std.specs.Prelude.{ℕ, Bool, List, [], ◌∷◌, codes}
use Rattle.std.specs.List.{list_any}
use Rattle.sqlite.specs.Schema.{Schema}
use Rattle.sqlite_schema.specs.Names.{same_name}

-- no table, no index and no view
abbrev pub no_tables : Schema
no_tables = record { tables = []; indexes = []; views = [] }

abbrev pub desk_names : List (List ℕ)
desk_names =
    codes "meta" ∷ codes "sets" ∷ codes "bugs" ∷ codes "marks" ∷ codes "blocks" ∷ codes "nodes" ∷ codes "nearest" ∷ codes "affects"
    ∷ codes "messages" ∷ codes "outcomes" ∷ codes "outcome_numbers" ∷ []

-- whether a table has the name of one of the desk's, as SQLite compares names: the case of ASCII
-- letters is ignored
abbrev pub has_desk_table : Schema → Bool
has_desk_table schema = list_any (λ t. list_any (same_name t.name) desk_names) schema.tables
