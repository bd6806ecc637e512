-- What a connection shows of a desk, between two calls.
use Rattle.std.specs.Prelude.{◌≡◌, ℕ, IsTrue}
use Rattle.sqlite.specs.Effect.{IsDatabase}
use Rattle.sqlite.specs.State.{State, HasCleanDisk}
use Rattle.sqlite.specs.Tree.{Trees}
use Rattle.table_content.specs.Content.{Content}
use Rattle.table_history.specs.History.{schema_at}
use Rattle.table_history.specs.Making.{AreUnder}
use Rattle.table_schema.specs.Tables.{desk_schema}
use Rattle.table_schema.specs.Rows.{content_of, AreShown}
use Rattle.table_schema.specs.Steps.{seen}

-- the tables of a desk, as the last commit left them
pub record IsDesk (s : State) : Type 0 where
  pub settled : s.now ≡ s.committed
  pub schema : s.now.schema ≡ desk_schema
  pub sound : IsDatabase s.now
  pub shown : AreShown s.now.trees

-- as far as the disk is honest and the connection serves, it shows a desk with this content
abbrev pub HasContent : Content → State → Type 0
HasContent c s = HasCleanDisk s → IsTrue s.is_open → IsDesk s × (seen s ≡ c)

-- the tables of a desk under schema k, as the last commit left them, with this content
pub record IsDeskUnder (k : ℕ) (c : Content) (s : State) : Type 0 where
  pub settled : s.now ≡ s.committed
  pub schema : s.now.schema ≡ schema_at k
  pub sound : IsDatabase s.now
  pub shown : AreUnder k c s.now.trees

-- as far as the disk is honest and the connection serves, it shows a desk under schema k with this
-- content
abbrev pub HasContentUnder : ℕ → Content → State → Type 0
HasContentUnder k c s = HasCleanDisk s → IsTrue s.is_open → IsDeskUnder k c s

-- it shows a desk with this content, under some schema of a desk
abbrev pub HoldsContent : Content → State → Type 0
HoldsContent c s = (k : ℕ) × HasContentUnder k c s

-- these trees, with the desk's schema, are a desk with this content
pub record AreTablesOf (c : Content) (db : Trees) : Type 0 where
  pub sound : IsDatabase (record { schema = desk_schema; trees = db })
  pub shown : AreShown db
  pub content : content_of db ≡ c

-- these trees, with schema k, are a desk with this content
pub record AreTablesUnder (k : ℕ) (c : Content) (db : Trees) : Type 0 where
  pub sound : IsDatabase (record { schema = schema_at k; trees = db })
  pub shown : AreUnder k c db

-- they are a desk with this content, under some schema of a desk
abbrev pub HoldTables : Content → Trees → Type 0
HoldTables c db = (k : ℕ) × AreTablesUnder k c db
