use Rattle.table_history.proofs.Imports.{ReadsRows}
use Rattle.table_schema.proofs.Exports.{Ok, subst, state}
use Rattle.table_history.proofs.SaidLemmas.{from_rows, no_rows}
use Rattle.table_history.proofs.number.read_schema.Goals as goal

pub returns-in-Some-clause-reads : goal.returns-in-Some-clause-reads
returns-in-Some-clause-reads g c =
    from_rows (λ rows. rows.items) (state g.S.Store c.args.tx.now.conn.now) (state g.S.Store c.asked_rows.new.tx.conn.now) c.in-Some.rows c.number_in.result
    (subst (λ o. ReadsRows (λ rows. rows.items) (state g.S.Store c.args.tx.now.conn.now) (state g.S.Store c.asked_rows.new.tx.conn.now) (Ok o)) c.in-Some.is c.in_ok-rows.ensures.reads)
    (rw c.as_slice.ensures.value at c.number_in.ensures.said) c.number_in.ensures.memory

pub returns-in-None-clause-reads : goal.returns-in-None-clause-reads
returns-in-None-clause-reads g c =
    no_rows (λ rows. rows.items) (state g.S.Store c.args.tx.now.conn.now) (state g.S.Store c.asked_rows.new.tx.conn.now)
    (subst (λ o. ReadsRows (λ rows. rows.items) (state g.S.Store c.args.tx.now.conn.now) (state g.S.Store c.asked_rows.new.tx.conn.now) (Ok o)) c.in-None.is c.in_ok-rows.ensures.reads)
