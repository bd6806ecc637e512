-- The tables of a desk, in the order in which they are made: those of schema 1, then those that
-- schema 2 adds, and then those that schema 3 adds.
-- This project's own rule.
use Rattle.std.specs.Prelude.{ℕ, true, false, Bool, [], ◌∷◌, Some, None, codes, List}
use Rattle.sqlite.specs.Collation.TheVariants.{Binary}
use Rattle.sqlite.specs.Kind.{Kind}
use Rattle.sqlite.specs.Kind.TheVariants.{Integer, Text, Blob}
use Rattle.sqlite.specs.Schema.{Schema}
use Rattle.sqlite.specs.Table.{Table}
use Rattle.sqlite.specs.declared.types.Value.TheVariants.{Null}
use Rattle.sqlite_schema.specs.declared.schema.Column.{Column}
use Rattle.sqlite_schema.specs.declared.schema.Index.{Index}
use Rattle.sqlite_value.specs.Keys.{plain}

abbrev pub column_of : List ℕ → Kind → Bool → Column
column_of name kind not_null = record { name = name; kind = kind; is_strict = true; not_null = not_null; default = Null; collation = Binary }

abbrev pub number_column : List ℕ → Column
number_column name = column_of name Integer true

abbrev pub text_column : List ℕ → Column
text_column name = column_of name Text true

-- a table with no rule but its columns' kinds
abbrev pub plain_table : List ℕ → ℕ → List Column → Table
plain_table name tree columns = record {
  name = name;
  tree = tree;
  columns = columns;
  key = None;
  primary = [];
  uniques = [];
  orders = [];
  checks = [];
  references = [];
  computed = [];
  stamps = record { places = []; terms = []; formats = [] };
  is_counted = false;
}

-- a table whose first column, a number, is its key
abbrev pub numbered_table : List ℕ → ℕ → List ℕ → List Column → Table
numbered_table name tree key columns = record (plain_table name tree (column_of key Integer false ∷ columns)) { key = Some 0; primary = 0 ∷ [] }

-- a table whose first columns, as many as there are places, are its key
abbrev pub keyed_table : List ℕ → ℕ → List ℕ → List Column → Table
keyed_table name tree places columns = record (plain_table name tree columns) { primary = places; uniques = places ∷ []; orders = plain ∷ [] }

abbrev pub index_of : List ℕ → ℕ → ℕ → List ℕ → Bool → Index
index_of name tree table columns is_unique = record { name = name; tree = tree; table = table; columns = columns; order = plain; is_unique = is_unique }

-- where the rows of each table stand
abbrev pub META : ℕ
META = 0

abbrev pub SETS : ℕ
SETS = 1

abbrev pub BUGS : ℕ
BUGS = 2

abbrev pub MARKS : ℕ
MARKS = 3

abbrev pub BLOCKS : ℕ
BLOCKS = 5

abbrev pub NODES : ℕ
NODES = 7

abbrev pub NEAREST : ℕ
NEAREST = 9

abbrev pub AFFECTS : ℕ
AFFECTS = 15

abbrev pub MESSAGES : ℕ
MESSAGES = 18

abbrev pub OUTCOMES : ℕ
OUTCOMES = 20

abbrev pub OUTCOME_NUMBERS : ℕ
OUTCOME_NUMBERS = 22

-- CREATE TABLE meta (id INTEGER PRIMARY KEY, schema INTEGER NOT NULL, next INTEGER NOT NULL) STRICT
abbrev pub meta_table : Table
meta_table = numbered_table (codes "meta") META (codes "id") (number_column (codes "schema") ∷ number_column (codes "next") ∷ [])

-- CREATE TABLE sets (set_key INTEGER PRIMARY KEY, package TEXT NOT NULL,
-- severity INTEGER NOT NULL, closed INTEGER NOT NULL, forwarded TEXT, owner TEXT,
-- tags INTEGER NOT NULL, archived INTEGER NOT NULL) STRICT
abbrev pub sets_table : Table
sets_table =
    numbered_table (codes "sets") SETS (codes "set_key")
    (text_column (codes "package") ∷ number_column (codes "severity") ∷ number_column (codes "closed") ∷ column_of (codes "forwarded") Text false
    ∷ column_of (codes "owner") Text false ∷ number_column (codes "tags") ∷ number_column (codes "archived") ∷ [])

-- CREATE TABLE bugs (number INTEGER PRIMARY KEY, set_key INTEGER NOT NULL, title TEXT NOT NULL,
-- submitter TEXT NOT NULL) STRICT
abbrev pub bugs_table : Table
bugs_table = numbered_table (codes "bugs") BUGS (codes "number") (number_column (codes "set_key") ∷ text_column (codes "title") ∷ text_column (codes "submitter") ∷ [])

-- CREATE TABLE marks (set_key INTEGER NOT NULL, kind INTEGER NOT NULL, source TEXT NOT NULL,
-- version TEXT NOT NULL, PRIMARY KEY (set_key, kind, source, version)) STRICT
abbrev pub marks_table : Table
marks_table =
    keyed_table (codes "marks") MARKS (1 ∷ 2 ∷ 3 ∷ 4 ∷ [])
    (number_column (codes "set_key") ∷ number_column (codes "kind") ∷ text_column (codes "source") ∷ text_column (codes "version") ∷ [])

-- CREATE TABLE blocks (set_key INTEGER NOT NULL, blocker INTEGER NOT NULL,
-- PRIMARY KEY (set_key, blocker)) STRICT
abbrev pub blocks_table : Table
blocks_table = keyed_table (codes "blocks") BLOCKS (1 ∷ 2 ∷ []) (number_column (codes "set_key") ∷ number_column (codes "blocker") ∷ [])

-- CREATE TABLE nodes (source TEXT NOT NULL, version TEXT NOT NULL, parent_source TEXT,
-- parent_version TEXT, PRIMARY KEY (source, version)) STRICT
abbrev pub nodes_table : Table
nodes_table =
    keyed_table (codes "nodes") NODES (1 ∷ 2 ∷ [])
    (text_column (codes "source") ∷ text_column (codes "version") ∷ column_of (codes "parent_source") Text false ∷ column_of (codes "parent_version") Text false ∷ [])

-- CREATE TABLE nearest (set_key INTEGER NOT NULL, source TEXT NOT NULL, version TEXT NOT NULL,
-- mark_source TEXT NOT NULL, mark_version TEXT NOT NULL, kind INTEGER NOT NULL,
-- PRIMARY KEY (set_key, source, version)) STRICT
abbrev pub nearest_table : Table
nearest_table =
    keyed_table (codes "nearest") NEAREST (1 ∷ 2 ∷ 3 ∷ [])
    (number_column (codes "set_key") ∷ text_column (codes "source") ∷ text_column (codes "version") ∷ text_column (codes "mark_source")
    ∷ text_column (codes "mark_version") ∷ number_column (codes "kind") ∷ [])

-- CREATE TABLE affects (set_key INTEGER NOT NULL, package TEXT NOT NULL,
-- PRIMARY KEY (set_key, package)) STRICT
abbrev pub affects_table : Table
affects_table = keyed_table (codes "affects") AFFECTS (1 ∷ 2 ∷ []) (number_column (codes "set_key") ∷ text_column (codes "package") ∷ [])

-- CREATE TABLE messages (id TEXT NOT NULL PRIMARY KEY, sender TEXT NOT NULL,
-- message BLOB NOT NULL) STRICT
abbrev pub messages_table : Table
messages_table =
    keyed_table (codes "messages") MESSAGES (1 ∷ [])
    (text_column (codes "id") ∷ text_column (codes "sender") ∷ column_of (codes "message") Blob true ∷ [])

-- CREATE TABLE outcomes (id TEXT NOT NULL, place INTEGER NOT NULL, kind INTEGER NOT NULL,
-- number INTEGER, field INTEGER, source TEXT, version TEXT, PRIMARY KEY (id, place)) STRICT
abbrev pub outcomes_table : Table
outcomes_table =
    keyed_table (codes "outcomes") OUTCOMES (1 ∷ 2 ∷ [])
    (text_column (codes "id") ∷ number_column (codes "place") ∷ number_column (codes "kind") ∷ column_of (codes "number") Integer false
    ∷ column_of (codes "field") Integer false ∷ column_of (codes "source") Text false ∷ column_of (codes "version") Text false ∷ [])

-- CREATE TABLE outcome_numbers (id TEXT NOT NULL, place INTEGER NOT NULL, number INTEGER NOT NULL,
-- PRIMARY KEY (id, place, number)) STRICT
abbrev pub outcome_numbers_table : Table
outcome_numbers_table =
    keyed_table (codes "outcome_numbers") OUTCOME_NUMBERS (1 ∷ 2 ∷ 3 ∷ [])
    (text_column (codes "id") ∷ number_column (codes "place") ∷ number_column (codes "number") ∷ [])

-- the indexes of the keys
abbrev pub marks_key : Index
marks_key = index_of (codes "sqlite_autoindex_marks_1") 4 MARKS (1 ∷ 2 ∷ 3 ∷ 4 ∷ []) true

abbrev pub blocks_key : Index
blocks_key = index_of (codes "sqlite_autoindex_blocks_1") 6 BLOCKS (1 ∷ 2 ∷ []) true

abbrev pub nodes_key : Index
nodes_key = index_of (codes "sqlite_autoindex_nodes_1") 8 NODES (1 ∷ 2 ∷ []) true

abbrev pub nearest_key : Index
nearest_key = index_of (codes "sqlite_autoindex_nearest_1") 10 NEAREST (1 ∷ 2 ∷ 3 ∷ []) true

-- CREATE INDEX sets_by_package ON sets (package, archived)
abbrev pub sets_by_package : Index
sets_by_package = index_of (codes "sets_by_package") 11 SETS (2 ∷ 8 ∷ []) false

-- CREATE INDEX bugs_by_set ON bugs (set_key)
abbrev pub bugs_by_set : Index
bugs_by_set = index_of (codes "bugs_by_set") 12 BUGS (2 ∷ []) false

-- CREATE INDEX marks_by_node ON marks (source, version)
abbrev pub marks_by_node : Index
marks_by_node = index_of (codes "marks_by_node") 13 MARKS (3 ∷ 4 ∷ []) false

-- CREATE INDEX blocks_by_blocker ON blocks (blocker)
abbrev pub blocks_by_blocker : Index
blocks_by_blocker = index_of (codes "blocks_by_blocker") 14 BLOCKS (2 ∷ []) false

abbrev pub affects_key : Index
affects_key = index_of (codes "sqlite_autoindex_affects_1") 16 AFFECTS (1 ∷ 2 ∷ []) true

-- CREATE INDEX affects_by_package ON affects (package)
abbrev pub affects_by_package : Index
affects_by_package = index_of (codes "affects_by_package") 17 AFFECTS (2 ∷ []) false

abbrev pub messages_key : Index
messages_key = index_of (codes "sqlite_autoindex_messages_1") 19 MESSAGES (1 ∷ []) true

abbrev pub outcomes_key : Index
outcomes_key = index_of (codes "sqlite_autoindex_outcomes_1") 21 OUTCOMES (1 ∷ 2 ∷ []) true

abbrev pub outcome_numbers_key : Index
outcome_numbers_key = index_of (codes "sqlite_autoindex_outcome_numbers_1") 23 OUTCOME_NUMBERS (1 ∷ 2 ∷ 3 ∷ []) true

-- schema 1
abbrev pub first_schema : Schema
first_schema = record {
  tables = meta_table ∷ sets_table ∷ bugs_table ∷ marks_table ∷ blocks_table ∷ nodes_table ∷ nearest_table ∷ [];
  indexes = marks_key ∷ blocks_key ∷ nodes_key ∷ nearest_key ∷ sets_by_package ∷ bugs_by_set ∷ marks_by_node ∷ blocks_by_blocker ∷ [];
  views = [];
}

-- schema 2
abbrev pub second_schema : Schema
second_schema = record {
  tables = meta_table ∷ sets_table ∷ bugs_table ∷ marks_table ∷ blocks_table ∷ nodes_table ∷ nearest_table ∷ affects_table ∷ [];
  indexes =
      marks_key ∷ blocks_key ∷ nodes_key ∷ nearest_key ∷ sets_by_package ∷ bugs_by_set ∷ marks_by_node ∷ blocks_by_blocker
      ∷ affects_key ∷ affects_by_package ∷ [];
  views = [];
}

-- schema 3
abbrev pub desk_schema : Schema
desk_schema = record {
  tables =
      meta_table ∷ sets_table ∷ bugs_table ∷ marks_table ∷ blocks_table ∷ nodes_table ∷ nearest_table ∷ affects_table
      ∷ messages_table ∷ outcomes_table ∷ outcome_numbers_table ∷ [];
  indexes =
      marks_key ∷ blocks_key ∷ nodes_key ∷ nearest_key ∷ sets_by_package ∷ bugs_by_set ∷ marks_by_node ∷ blocks_by_blocker
      ∷ affects_key ∷ affects_by_package ∷ messages_key ∷ outcomes_key ∷ outcome_numbers_key ∷ [];
  views = [];
}
