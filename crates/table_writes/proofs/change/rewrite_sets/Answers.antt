use Rattle.std.proofs.Common.{◌≡◌, Err, rules}
use Rattle.sqlite.specs.Held.{state}
use Rattle.table_schema.proofs.StepLemmas.{done, failed}
use Rattle.table_writes.proofs.ChangeSteps.{IsCleared, IsWritten, cleared, then_put, written, unmade}
use Rattle.table_writes.proofs.change.rewrite_sets.Goals as goal

pub returns-in_err-clear_images-clause-acts : goal.returns-in_err-clear_images-clause-acts
returns-in_err-clear_images-clause-acts g c =
    let is : c.from_residual-in_err-clear_images.result ≡ Err c.in_err-clear_images.field-0.0 = search rules in
    let t = c.args.family.now in
    let change = c.args.change.now in
    let plans = c.in_ok-plans.plans in
    let old = state g.S.Store c.args.tx.now.conn.now in
    let end = state g.S.Store c.clear_images.new.tx.conn.now in
    rw is (unmade t change old end c.in_err-clear_images.field-0.0 (IsCleared t change plans.items) (IsWritten t change)
    (cleared t change (λ ps. ps.items) plans old end (state g.S.Store c.plan_images.new.tx.conn.now) (failed c.in_err-clear_images.field-0.0)
    (rw c.as_slice.ensures at c.in_ok-plans.ensures.reads) (rw c.as_slice-2.ensures.value at c.in_err-clear_images.ensures.plays)))

pub returns-clause-acts : goal.returns-clause-acts
returns-clause-acts g c =
    let t = c.args.family.now in
    let change = c.args.change.now in
    let plans = c.in_ok-plans.plans in
    let old = state g.S.Store c.args.tx.now.conn.now in
    let mid = state g.S.Store c.clear_images.new.tx.conn.now in
    let put = state g.S.Store c.put_images.new.tx.conn.now in
    written t change plans.items old mid put c.put_images.result
    (then_put t change plans.items old mid put c.put_images.result
    (cleared t change (λ ps. ps.items) plans old mid (state g.S.Store c.plan_images.new.tx.conn.now) done
    (rw c.as_slice.ensures at c.in_ok-plans.ensures.reads) (rw c.as_slice-2.ensures.value at c.in_ok-clear_images.ensures.plays))
    (rw c.as_slice-3.ensures.value at c.put_images.ensures.plays))
