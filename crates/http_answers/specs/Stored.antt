-- What a store holds: a desk, and beside it what is kept of messages that have an id.
use Rattle.bug_record.specs.Desk.{Desk}
use Rattle.store_contract.specs.Crashes.{Holding}
use Rattle.store_contract.specs.Kept.{Keeping}

pub record Stored : Type 0 where
  pub desk : Desk
  pub kept : Keeping

-- what a store holds whose desk this is, and that keeps this
abbrev pub stored : {S : Type 0} → (S → Desk) → (S → Keeping) → S → Stored
stored desk keeping s = record { desk = desk s; kept = keeping s }

-- the same as a store's clauses on crashes have it
abbrev pub holding : Stored → Holding
holding s = (s.desk, s.kept)
