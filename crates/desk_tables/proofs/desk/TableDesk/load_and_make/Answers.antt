use Rattle.desk_tables.proofs.Imports.{content_seen, desk_seen, AreTablesOf}
use Rattle.table_schema.proofs.Exports.{◌≡◌, Err, ap, rules, faults_later, state, survives_then, survives_weaker, changed}
use Rattle.table_reads.specs.Known.{known_key, known_set}
use Rattle.desk_tables.proofs.KeptLemmas.{recalled_in}
use Rattle.desk_tables.proofs.desk.TableDesk.load_and_make.Goals as goal

pub make-requires-clause-before : goal.make-requires-clause-before
make-requires-clause-before g c = λ was clean.
    let d = c.load_for.new.self in
    rw c.as_ref.ensures.value (recalled_in (known_key d.known) (known_set d.known) (content_seen g.S.Store d.last.value) was.known.sets c.recall_for-before.result c.recall_for-before.ensures)

pub returns-in_err-load_for-clause-answer : goal.returns-in_err-load_for-clause-answer
returns-in_err-load_for-clause-answer g c =
    let did = c.in_err-load_for.ensures in
    let is : c.from_residual.result ≡ Err c.in_err-load_for.field-0.0 = search rules in
    rw is (record { honest = did.answer.holds.honest; kept = did.answer.holds.kept; fact = λ was clean. ap (desk_seen g.S.Store) did.last })

pub returns-clause-answer : goal.returns-clause-answer
returns-clause-answer g c =
    let last = c.in_ok-load_for.ensures.last in
    let loaded = c.in_ok-load_for.ensures.answer.holds in
    let did = c.make.ensures.answer in
    record {
      honest = λ clean. loaded.honest (did.honest clean);
      kept = λ was clean. did.kept (loaded.kept was (did.honest clean)) clean;
      fact = λ was clean. rw last at (did.fact (loaded.kept was (did.honest clean)) clean);
    }

pub returns-in_err-load_for-clause-crash : goal.returns-in_err-load_for-clause-crash
returns-in_err-load_for-clause-crash g c = λ was.
    survives_weaker (state g.S.Store c.args.self.now.conn) (state g.S.Store c.load_for.new.self.conn) (λ _. ⊥) _ (λ clean db none. absurd none) c.in_err-load_for.ensures.survives

pub returns-clause-crash : goal.returns-clause-crash
returns-clause-crash g c = λ was.
    let last = c.in_ok-load_for.ensures.last in
    survives_then (state g.S.Store c.args.self.now.conn) (state g.S.Store c.load_for.new.self.conn) (state g.S.Store c.make.new.self.conn) (λ _. ⊥)
    (AreTablesOf (changed (content_seen g.S.Store c.args.self.now.last.value) c.args.change.now)) (AreTablesOf (changed (content_seen g.S.Store c.args.self.now.last.value) c.args.change.now))
    (λ clean db none. absurd none) (λ clean db p. p) c.in_ok-load_for.ensures.survives
    (rw last at (c.make.ensures.crash (λ clean. c.in_ok-load_for.ensures.answer.holds.kept was (c.make.ensures.answer.honest clean))))

pub returns-clause-cause : goal.returns-clause-cause
returns-clause-cause g c = λ was clean.
    let loaded = c.in_ok-load_for.ensures in
    let did = c.make.ensures in
    let early = did.answer.honest clean in
    let kept = loaded.answer.holds.kept was early in
    faults_later (state g.S.Store c.args.self.now.conn) (state g.S.Store c.load_for.new.self.conn) (state g.S.Store c.make.new.self.conn) _ _ loaded.survives (did.crash (λ _. kept)) early c.make.result
    (did.cause kept clean)
