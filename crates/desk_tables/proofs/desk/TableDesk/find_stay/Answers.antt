use Rattle.desk_tables.proofs.Imports.{content_seen}
use Rattle.table_schema.proofs.Exports.{◌≡◌, IfOk, refl, sym, subst, all_stay}
use Rattle.table_reads.specs.Known.{known_key, known_set}
use Rattle.desk_tables.proofs.KeptLemmas.{answered, recalled_in}
use Rattle.desk_tables.proofs.desk.TableDesk.find_stay.Goals as goal

pub returns-in-Some-clause-answer : goal.returns-in-Some-clause-answer
returns-in-Some-clause-answer g c =
    record { holds = record { honest = λ clean. clean; kept = λ was clean. was; fact = λ was clean. refl }; was_kept = λ now clean. now; left = λ clean a b left. left }

pub returns-in-Some-clause-stay : goal.returns-in-Some-clause-stay
returns-in-Some-clause-stay g c = λ now clean.
    let d = c.args.self.now in
    c.in-Some.ensures (content_seen g.S.Store d.last.value)
    (rw c.as_ref.ensures.value (recalled_in (known_key d.known) (known_set d.known) (content_seen g.S.Store d.last.value) now.known.sets c.recall_for-before.result c.recall_for-before.ensures))

pub returns-clause-answer : goal.returns-clause-answer
returns-clause-answer g c =
    let did = c.ask.ensures in
    record { holds = record { honest = did.answer.holds.honest; kept = did.answer.holds.kept; fact = λ was clean. did.last }; was_kept = did.answer.was_kept; left = did.answer.left }

pub returns-clause-stay : goal.returns-clause-stay
returns-clause-stay g c = λ now clean.
    let did = c.ask.ensures in
    subst (λ h. IfOk c.ask.result (λ stay. stay ≡ all_stay (content_seen g.S.Store h) c.args.change.now.images)) (sym did.last)
    (answered _ _ c.ask.result _ (did.answer.holds.fact (did.answer.was_kept now clean) clean))
