use Rattle.desk_tables.proofs.Imports.{IsNextPlace, content_seen, desk_seen, keeping_seen, AreTablesOf}
use Rattle.table_schema.proofs.Exports.{◌≡◌, Err, fault_later, faults_later, ap, sym, subst, ◌∙◌, rules, option_copied, state, survives_then, survives_weaker, kept_after}
use Rattle.table_reads.specs.Known.{known_key, known_set}
use Rattle.desk_tables.proofs.KeptLemmas.{recalled_in}
use Rattle.desk_tables.proofs.desk.TableDesk.load_and_keep.Goals as goal

pub keep_outcome-requires-clause-before : goal.keep_outcome-requires-clause-before
keep_outcome-requires-clause-before g c = λ was clean.
    let d = c.load_for.new.self in
    rw c.as_ref.ensures.value (recalled_in (known_key d.known) (known_set d.known) (content_seen g.S.Store d.last.value) was.known.sets c.recall_for-before.result c.recall_for-before.ensures)

pub keep_outcome-requires-clause-place : goal.keep_outcome-requires-clause-place
keep_outcome-requires-clause-place g c = λ was clean.
    let found = c.in_ok-place.ensures in
    let loaded = c.in_ok-load_for.ensures in
    let early = loaded.answer.holds.honest clean in
    let mid = loaded.answer.was_kept was clean in
    let fact = found.answer.holds.fact (found.answer.was_kept mid early) early in
    subst (λ h. IsNextPlace c.args.id.now c.in_ok-place.place (content_seen g.S.Store h)) (sym (loaded.last ∙ found.last)) fact.0

pub returns-in_err-place-clause-answer : goal.returns-in_err-place-clause-answer
returns-in_err-place-clause-answer g c = λ may.
    let did = c.in_err-place.ensures in
    let is : c.from_residual.result ≡ Err c.in_err-place.field-0.0 = search rules in
    rw is (record { honest = did.answer.holds.honest; kept = did.answer.holds.kept; fact = λ was clean. (ap (desk_seen g.S.Store) did.last, ap (keeping_seen g.S.Store) did.last) })

pub returns-in_err-place-clause-crash : goal.returns-in_err-place-clause-crash
returns-in_err-place-clause-crash g c = λ may was.
    survives_weaker (state g.S.Store c.args.self.now.conn) (state g.S.Store c.find_place.new.self.conn) (λ _. ⊥) _ (λ clean db none. absurd none) c.in_err-place.ensures.survives

pub returns-in_err-load_for-clause-answer : goal.returns-in_err-load_for-clause-answer
returns-in_err-load_for-clause-answer g c = λ may.
    let found = c.in_ok-place.ensures in
    let did = c.in_err-load_for.ensures in
    let last = did.last ∙ found.last in
    let is : c.from_residual-in_err-load_for.result ≡ Err c.in_err-load_for.field-0.0 = search rules in
    rw is (record {
      honest = λ clean. found.answer.holds.honest (did.answer.holds.honest clean);
      kept = λ was clean. did.answer.holds.kept (found.answer.holds.kept was (did.answer.holds.honest clean)) clean;
      fact = λ was clean. (ap (desk_seen g.S.Store) last, ap (keeping_seen g.S.Store) last);
    })

pub returns-in_err-load_for-clause-crash : goal.returns-in_err-load_for-clause-crash
returns-in_err-load_for-clause-crash g c = λ may was.
    survives_then (state g.S.Store c.args.self.now.conn) (state g.S.Store c.find_place.new.self.conn) (state g.S.Store c.load_for.new.self.conn) (λ _. ⊥) (λ _. ⊥) _
    (λ clean db none. absurd none) (λ clean db none. absurd none) c.in_ok-place.ensures.survives c.in_err-load_for.ensures.survives

pub returns-clause-answer : goal.returns-clause-answer
returns-clause-answer g c = λ may.
    let found = c.in_ok-place.ensures.answer.holds in
    let loaded = c.in_ok-load_for.ensures.answer.holds in
    let last = c.in_ok-load_for.ensures.last ∙ c.in_ok-place.ensures.last in
    let did = c.keep_outcome.ensures.answer (rw last may) in
    record {
      honest = λ clean. found.honest (loaded.honest (did.honest clean));
      kept = λ was clean. did.kept (loaded.kept (found.kept was (loaded.honest (did.honest clean))) (did.honest clean)) clean;
      fact = λ was clean. rw last at (did.fact (loaded.kept (found.kept was (loaded.honest (did.honest clean))) (did.honest clean)) clean);
    }

pub returns-clause-crash : goal.returns-clause-crash
returns-clause-crash g c = λ may was.
    let found = c.in_ok-place.ensures.answer.holds in
    let loaded = c.in_ok-load_for.ensures.answer.holds in
    let last = c.in_ok-load_for.ensures.last ∙ c.in_ok-place.ensures.last in
    let old = state g.S.Store c.args.self.now.conn in
    let mid = state g.S.Store c.load_for.new.self.conn in
    let after = kept_after c.args.id.now c.args.from.now c.args.message.now c.args.outcome.now (option_copied c.args.change) (content_seen g.S.Store c.args.self.now.last.value) in
    survives_then old mid (state g.S.Store c.keep_outcome.new.self.conn) (λ _. ⊥) (AreTablesOf after) (AreTablesOf after)
    (λ clean db none. absurd none) (λ clean db p. p)
    (survives_then old (state g.S.Store c.find_place.new.self.conn) mid (λ _. ⊥) (λ _. ⊥) (λ _. ⊥) (λ clean db none. none) (λ clean db none. none) c.in_ok-place.ensures.survives c.in_ok-load_for.ensures.survives)
    (rw last at (c.keep_outcome.ensures.crash (rw last may) (λ clean.
    let early = c.keep_outcome.ensures.honest clean in
    loaded.kept (found.kept was (loaded.honest early)) early)))

pub returns-in_err-load_for-clause-cause : goal.returns-in_err-load_for-clause-cause
returns-in_err-load_for-clause-cause g c = λ may was clean.
    let found = c.in_ok-place.ensures in
    let did = c.in_err-load_for.ensures in
    let early = did.answer.holds.honest clean in
    let fault = c.in_err-load_for.field-0.0 in
    let is : c.from_residual-in_err-load_for.result ≡ Err fault = search rules in
    rw is (fault_later (state g.S.Store c.args.self.now.conn) (state g.S.Store c.find_place.new.self.conn) (state g.S.Store c.load_for.new.self.conn) _ _ found.survives did.survives early fault
    (did.cause (found.answer.holds.kept was early) clean))

pub returns-clause-cause : goal.returns-clause-cause
returns-clause-cause g c = λ may was clean.
    let found = c.in_ok-place.ensures in
    let loaded = c.in_ok-load_for.ensures in
    let last = loaded.last ∙ found.last in
    let did = c.keep_outcome.ensures in
    let early = did.honest clean in
    let earlier = loaded.answer.holds.honest early in
    let kept = loaded.answer.holds.kept (found.answer.holds.kept was earlier) early in
    let old = state g.S.Store c.args.self.now.conn in
    let mid = state g.S.Store c.load_for.new.self.conn in
    faults_later old mid (state g.S.Store c.keep_outcome.new.self.conn) _ _
    (survives_then old (state g.S.Store c.find_place.new.self.conn) mid (λ _. ⊥) (λ _. ⊥) (λ _. ⊥) (λ clean db none. none) (λ clean db none. none) found.survives loaded.survives)
    (did.crash (rw last may) (λ _. kept)) early c.keep_outcome.result (did.cause (rw last may) kept clean)
