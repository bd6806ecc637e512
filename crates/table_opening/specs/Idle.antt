-- A connection between two calls.
use Rattle.std.specs.Prelude.{◌≡◌, None, false}
use Rattle.sqlite.specs.Held.{Held}

-- a connection between two calls: in no transaction, and its statements have no limit of steps
pub record IsIdle {S : Type 0} (conn : Held S) : Type 0 where
  pub autocommit : conn.in_transaction ≡ false
  pub unlimited : conn.step_limit ≡ None
