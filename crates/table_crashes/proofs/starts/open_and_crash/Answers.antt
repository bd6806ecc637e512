use Rattle.std.proofs.Common.{ℕ, IfSome, subst}
use Rattle.sqlite.specs.Held.{state}
use Rattle.sqlite.specs.State.{HasCleanDisk}
use Rattle.sqlite_trees.specs.View.{IsClean}
use Rattle.table_content.specs.Content.{Content}
use Rattle.table_opening.specs.Shown.{AreTablesUnder}
use Rattle.table_crashes.specs.Settled.{HoldTablesFrom}
use Rattle.table_crashes.proofs.StartLemmas.{found_again, clean_again}
use Rattle.table_crashes.proofs.starts.open_and_crash.Goals as goal

pub returns-in-Some-clause-found : goal.returns-in-Some-clause-found
returns-in-Some-clause-found g c =
    let before = (state g.S.Store c.args.conn).committed.trees in
    found_again g.S.Store c.open_store.result before c.in-Some.store
    (subst (λ o. IfSome o (λ left. IsClean (g.S.Store.view left) → (k : ℕ) (x : Content) → AreTablesUnder k x before → HoldTablesFrom k x (g.S.Store.view left).trees)) c.in-Some.is
    c.crash_in_open-answered.ensures.held)
    c.open_store.ensures.honest c.open_store.ensures.opened

pub returns-in-Some-clause-honest : goal.returns-in-Some-clause-honest
returns-in-Some-clause-honest g c =
    clean_again g.S.Store c.open_store.result c.args.conn c.in-Some.store
    (subst (λ o. IfSome o (λ left. IsClean (g.S.Store.view left) → HasCleanDisk (state g.S.Store c.args.conn))) c.in-Some.is c.crash_in_open-answered.ensures.honest)
    c.open_store.ensures.honest
