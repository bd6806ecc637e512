use Rattle.std.proofs.Common.{Some}
use Rattle.std.specs.Option.{option_copied}
use Rattle.sqlite.specs.Held.{state}
use Rattle.table_writes.proofs.StaySteps.{plan_known, plan_read}
use Rattle.table_writes.proofs.staying.stay_plan.Goals as goal

pub returns-in-Some-clause-reads : goal.returns-in-Some-clause-reads
returns-in-Some-clause-reads g c =
    plan_known c.args.family.now c.args.image.now (option_copied c.args.old) (state g.S.Store c.args.tx.now.conn.now) (Some c.in-Some.edits) (rw c.in-Some.is at c.in_ok-edits.ensures.plan)

pub returns-in-None-clause-reads : goal.returns-in-None-clause-reads
returns-in-None-clause-reads g c =
    plan_read c.args.family.now c.args.image.now (option_copied c.args.old) (state g.S.Store c.args.tx.now.conn.now) (state g.S.Store c.read_plan.new.tx.conn.now) c.read_plan.result c.read_plan.ensures.reads
