-- What a connection showed at an earlier moment, and shows now.
use Rattle.std.proofs.Common.{ap}
use Rattle.std.specs.Prelude.{◌≡◌, IsTrue}
use Rattle.std.specs.Coded.{coded_ℕ, coded_bool}
use base.Stored.{Coded-set}
use mathlib.Core.HLevel.{Π_prop}
use Rattle.sqlite.specs.Effect.{Database}
use Rattle.sqlite.specs.State.{State, HasCleanDisk}
use Rattle.sqlite_schema.specs.contracts.schema.Schema.{the_row}
use Rattle.sqlite_trees.specs.Props.{Trees-set}
use Rattle.table_content.specs.Content.{Content}
use Rattle.table_opening.specs.Shown.{HasContent}

-- as far as the disk is honest and the connection serves, its tables are as they were
pub record IsAsBefore (old new : State) : Type 0 where
  pub honest : HasCleanDisk new → HasCleanDisk old
  pub was_open : HasCleanDisk new → IsTrue new.is_open → IsTrue old.is_open
  pub tables : HasCleanDisk new → IsTrue new.is_open → new.now ≡ old.now
  pub committed : HasCleanDisk new → IsTrue new.is_open → new.committed ≡ old.committed

-- where it showed a desk, its tables are as they were
abbrev pub StillShows : State → State → Type 0
StillShows old new = (c : Content) → HasContent c old → IsAsBefore old new

-- this is a proposition, so a struct can carry it
Database-set : IsSet Database
Database-set a b p q = λ i j. record {
  schema = Coded-set the_row.coded _ _ (ap (λ (d : Database). d.schema) p) (ap (λ (d : Database). d.schema) q) i j;
  trees = Trees-set _ _ (ap (λ (d : Database). d.trees) p) (ap (λ (d : Database). d.trees) q) i j;
}

IsAsBefore-prop : (old new : State) → IsProp (IsAsBefore old new)
IsAsBefore-prop old new x y = λ i. record {
  honest = λ clean. Coded-set coded_ℕ _ _ (x.honest clean) (y.honest clean) i;
  was_open = λ clean o. Coded-set coded_bool _ _ (x.was_open clean o) (y.was_open clean o) i;
  tables = λ clean o. Database-set _ _ (x.tables clean o) (y.tables clean o) i;
  committed = λ clean o. Database-set _ _ (x.committed clean o) (y.committed clean o) i;
}

pub StillShows-prop : (old new : State) → IsProp (StillShows old new)
StillShows-prop old new = Π_prop (λ c. Π_prop (λ shows. IsAsBefore-prop old new))
