use Rattle.std.proofs.Common.{◌≡◌}
use Rattle.sqlite.specs.Held.{state}
use Rattle.table_content.specs.View.{shared_of}
use Rattle.table_schema.proofs.ReadSteps.{known_first, known_then, known_answer}
use Rattle.table_sets.proofs.SharedLemmas.{read_is}
use Rattle.table_sets.proofs.shared.read_shared.Goals as goal

pub returns-clause-reads : goal.returns-clause-reads
returns-clause-reads g c =
    let old = state g.S.Store c.args.tx.now.conn.now in
    let mid = state g.S.Store c.read_marks.new.tx.conn.now in
    let later = state g.S.Store c.read_blockers.new.tx.conn.now in
    let new = state g.S.Store c.read_affected.new.tx.conn.now in
    let key = c.args.key in
    let fields = c.args.fields in
    let marks = c.in_ok-marks.marks in
    let blockers = c.in_ok-blockers.blockers in
    let affects = c.in_ok-affects.affects in
    known_answer old new _
    (λ x. (((marks.found ≡ x.found key) × (marks.fixed ≡ x.fixed key)) × (blockers ≡ x.blockers key)) × (affects ≡ x.affects key))
    (λ x shared. shared ≡ shared_of x key fields)
    (λ x p. (read_is x key fields marks.found marks.fixed blockers affects p.0.0.0 p.0.0.1 p.0.1 p.1, tt))
    (known_then old later new affects (λ x. ((marks.found ≡ x.found key) × (marks.fixed ≡ x.fixed key)) × (blockers ≡ x.blockers key)) (λ x names. names ≡ x.affects key)
    (known_then old mid later blockers (λ x. (marks.found ≡ x.found key) × (marks.fixed ≡ x.fixed key)) (λ x numbers. numbers ≡ x.blockers key)
    (known_first old mid marks (λ x ms. (ms.found ≡ x.found key) × (ms.fixed ≡ x.fixed key)) c.in_ok-marks.ensures.reads)
    c.in_ok-blockers.ensures.reads) c.in_ok-affects.ensures.reads)
