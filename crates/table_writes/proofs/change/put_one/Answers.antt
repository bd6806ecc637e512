use Rattle.std.specs.Option.{option_copied}
use Rattle.sqlite.specs.Held.{state}
use Rattle.table_writes.proofs.StaySteps.{stayed, not_stayed}
use Rattle.table_writes.proofs.change.put_one.Goals as goal

pub returns-in-Some-clause-acts : goal.returns-in-Some-clause-acts
returns-in-Some-clause-acts g c =
    stayed c.args.family.now c.args.change.now c.args.image.now (option_copied c.args.old) c.in_ok-edits.field-0 (state g.S.Store c.args.tx.now.conn.now) (state g.S.Store c.stay_plan.new.tx.conn.now)
    (state g.S.Store c.play_all.new.tx.conn.now) c.play_all.result c.in_ok-edits.ensures.reads c.requires c.in-Some.edits c.in-Some.is (rw c.as_slice.ensures at c.play_all.ensures.plays)

pub returns-in-None-clause-acts : goal.returns-in-None-clause-acts
returns-in-None-clause-acts g c =
    not_stayed c.args.family.now c.args.change.now c.args.image.now (option_copied c.args.old) c.in_ok-edits.field-0 (state g.S.Store c.args.tx.now.conn.now) (state g.S.Store c.stay_plan.new.tx.conn.now)
    (state g.S.Store c.rewrite_sets.new.tx.conn.now) c.rewrite_sets.result c.in_ok-edits.ensures.reads c.rewrite_sets.ensures.acts
