use Rattle.table_schema.proofs.Exports.{state}
use Rattle.table_opening.proofs.OpeningLemmas.{known, newer, no_number}
use Rattle.table_opening.proofs.opening.recognise.Goals as goal

pub returns-in-Number-clause-recognised : goal.returns-in-Number-clause-recognised
returns-in-Number-clause-recognised g c =
    known (state g.S.Store c.args.conn.now) (state g.S.Store c.ask_schema.new.conn) c.in_ok-number.field-0 c.in_ok-number.ensures.asked c.in-Number.number c.in-Number.is c.if-number-le-NEWEST.true

pub returns-in-Number-2-clause-recognised : goal.returns-in-Number-2-clause-recognised
returns-in-Number-2-clause-recognised g c =
    newer (state g.S.Store c.args.conn.now) (state g.S.Store c.ask_schema.new.conn) c.in_ok-number.field-0 c.in_ok-number.ensures.asked c.in-Number.number c.in-Number.is c.if-number-le-NEWEST.false

pub returns-in-NoNumber-clause-recognised : goal.returns-in-NoNumber-clause-recognised
returns-in-NoNumber-clause-recognised g c =
    no_number (state g.S.Store c.args.conn.now) (state g.S.Store c.ask_schema.new.conn) c.in_ok-number.field-0 c.in_ok-number.ensures.asked c.in-NoNumber.is
