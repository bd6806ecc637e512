use Rattle.std.proofs.Common.{ℕ, true, IsTrue, subst}
use Rattle.sqlite.specs.Held.{state}
use Rattle.sqlite.specs.State.{HasCleanDisk}
use Rattle.table_content.specs.Content.{Content}
use Rattle.table_content.specs.Kept.{IsKeptContent}
use Rattle.table_opening.specs.Shown.{AreTablesOf, AreTablesUnder, HoldTables}
use Rattle.table_crashes.specs.Settled.{HoldTablesFrom}
use Rattle.table_crashes.proofs.OpenLemmas.{Leaves, left_then, left_held, left_newest}
use Rattle.table_crashes.proofs.starts.crash_in_open.Goals as goal

pub returns-in-Ok-clause-honest : goal.returns-in-Ok-clause-honest
returns-in-Ok-clause-honest g c =
    let conn = c.in-Ok.desk.conn in
    left_then g.S.Store conn (λ _. HasCleanDisk (state g.S.Store c.args.conn)) c.crash.result (λ clean db may. c.in-Ok.ensures.honest clean)
    (subst (λ h. Leaves g.S.Store h c.crash.result) c.close.ensures.conn c.crash.ensures.left)

pub returns-in-Ok-clause-held : goal.returns-in-Ok-clause-held
returns-in-Ok-clause-held g c =
    let conn = c.in-Ok.desk.conn in
    left_then g.S.Store conn (λ db. (k : ℕ) (x : Content) → AreTablesUnder k x (state g.S.Store c.args.conn).committed.trees → HoldTablesFrom k x db) c.crash.result
    (λ clean. let here = c.requires.opened (c.in-Ok.ensures.honest clean) in left_held g.S.Store g.met.S.Store.settled c.args.conn here.0 here.1 (state g.S.Store conn) c.in-Ok.ensures.crash clean)
    (subst (λ h. Leaves g.S.Store h c.crash.result) c.close.ensures.conn c.crash.ensures.left)

pub returns-in-Ok-clause-done : goal.returns-in-Ok-clause-done
returns-in-Ok-clause-done g c =
    left_then g.S.Store c.in-Ok.desk.conn (λ db. IsTrue true → (x : Content) → HoldTables x (state g.S.Store c.args.conn).committed.trees → IsKeptContent x → AreTablesOf x db) c.crash.result
    (λ clean db may done. let here = c.requires.opened (c.in-Ok.ensures.honest clean) in left_newest g.S.Store g.met.S.Store.settled c.args.conn here.0 here.1 c.in-Ok.desk
    c.in-Ok.ensures.content c.in-Ok.ensures.kept c.in-Ok.ensures.serves c.in-Ok.ensures.crash clean db may)
    (subst (λ h. Leaves g.S.Store h c.crash.result) c.close.ensures.conn c.crash.ensures.left)

pub returns-in-Err-clause-honest : goal.returns-in-Err-clause-honest
returns-in-Err-clause-honest g c =
    left_then g.S.Store c.in-Err.conn (λ _. HasCleanDisk (state g.S.Store c.args.conn)) c.crash-in-Err.result (λ clean db may. c.in-Err.ensures.left.honest clean) c.crash-in-Err.ensures.left

pub returns-in-Err-clause-held : goal.returns-in-Err-clause-held
returns-in-Err-clause-held g c =
    let conn = c.in-Err.conn in
    left_then g.S.Store conn (λ db. (k : ℕ) (x : Content) → AreTablesUnder k x (state g.S.Store c.args.conn).committed.trees → HoldTablesFrom k x db) c.crash-in-Err.result
    (λ clean. let here = c.requires.opened (c.in-Err.ensures.left.honest clean) in left_held g.S.Store g.met.S.Store.settled c.args.conn here.0 here.1 (state g.S.Store conn) c.in-Err.ensures.crash clean)
    c.crash-in-Err.ensures.left
