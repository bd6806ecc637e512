use Rattle.table_schema.proofs.Exports.{◌≡◌, Err, rules, ap, state}
use Rattle.table_opening.specs.declared.open_fault.OpenFault.TheVariants.{Store}
use Rattle.table_opening.proofs.OpeningLemmas.{not_found, found_newest, found_earlier, not_earlier}
use Rattle.table_opening.proofs.opening.find_desk.Goals as goal

pub returns-in_err-from-clause-found : goal.returns-in_err-from-clause-found
returns-in_err-from-clause-found g c =
    let why = c.in_err-from.field-0.0 in
    let is : c.from_residual.result ≡ Err why = search rules in
    rw is (not_found (λ last. state g.S.Store last.value) (state g.S.Store c.args.conn.now) (state g.S.Store c.recognise.new.conn) why c.in_err-from.ensures.recognised)

pub returns-then-from-eq-NEWEST-clause-found : goal.returns-then-from-eq-NEWEST-clause-found
returns-then-from-eq-NEWEST-clause-found g c =
    found_newest (λ last. state g.S.Store last.value) (state g.S.Store c.args.conn.now) (state g.S.Store c.recognise.new.conn) c.in_ok-from.from c.of-last.result c.if-from-eq-NEWEST.true
    (ap (state g.S.Store) c.of-last.ensures) c.in_ok-from.ensures.recognised

pub returns-clause-found : goal.returns-clause-found
returns-clause-found g c =
    found_earlier (λ last. state g.S.Store last.value) (state g.S.Store c.args.conn.now) (state g.S.Store c.recognise.new.conn) (state g.S.Store c.carry_desk.new.conn) c.in_ok-from.from c.if-from-eq-NEWEST.false
    c.in_ok-carry_desk.ensures.idle.autocommit c.in_ok-from.ensures.recognised c.of.result (ap (state g.S.Store) c.of.ensures) c.in_ok-carry_desk.ensures.carried

pub returns-in_err-carry_desk-clause-found : goal.returns-in_err-carry_desk-clause-found
returns-in_err-carry_desk-clause-found g c =
    let fault = c.in_err-carry_desk.field-0.0 in
    let is : c.from_residual-in_err-carry_desk.result ≡ Err (Store fault) = search rules in
    rw is (not_earlier (λ last. state g.S.Store last.value) (state g.S.Store c.args.conn.now) (state g.S.Store c.recognise.new.conn) (state g.S.Store c.carry_desk.new.conn) c.in_ok-from.from c.if-from-eq-NEWEST.false
    c.in_err-carry_desk.ensures.idle.autocommit c.in_ok-from.ensures.recognised fault c.in_err-carry_desk.ensures.carried)
