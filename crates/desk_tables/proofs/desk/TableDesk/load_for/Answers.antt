use Rattle.desk_tables.proofs.Imports.{HasTreeIfAny, content_seen}
use Rattle.table_schema.proofs.Exports.{◌≡◌, faults_later, state, is_some, false, OnOk, option_copied, sym, ap, subst, ◌∙◌}
use Rattle.desk_tables.proofs.KeptLemmas.{tree_there, tree_spared, tree_read}
use Rattle.desk_tables.proofs.desk.TableDesk.load_for.Goals as goal

pub returns-then-is_some-clause-tree : goal.returns-then-is_some-clause-tree
returns-then-is_some-clause-tree g c = λ was clean.
    let d = c.args.self.now in
    subst (λ x. HasTreeIfAny d.family (content_seen g.S.Store d.last.value) (option_copied x)) (sym c.in-Some.is)
    (tree_there d.family (content_seen g.S.Store d.last.value) c.in-Some.change.now (sym c.is_some.ensures ∙ c.if-is_some.true) was.tree)

pub returns-then-stay-clause-tree : goal.returns-then-stay-clause-tree
returns-then-stay-clause-tree g c = λ now clean.
    let d = c.find_stay.new.self in
    let none : is_some d.family ≡ false = ap is_some c.in_ok-stay.ensures.family ∙ sym c.is_some.ensures ∙ c.if-is_some.false in
    subst (λ x. HasTreeIfAny d.family (content_seen g.S.Store d.last.value) (option_copied x)) (sym c.in-Some.is)
    (tree_spared d.family (content_seen g.S.Store d.last.value) c.in-Some.change.now none (sym (c.in_ok-stay.ensures.stay now clean) ∙ c.if-stay.true))

pub returns-clause-tree : goal.returns-clause-tree
returns-clause-tree g c = λ now clean.
    let d = c.load.new.self in
    subst (λ x. OnOk c.load.result (HasTreeIfAny d.family (content_seen g.S.Store d.last.value) (option_copied x))) (sym c.in-Some.is)
    (tree_read d.family (content_seen g.S.Store d.last.value) c.in-Some.change.now c.load.result c.load.ensures.some now.tree)

pub returns-clause-cause : goal.returns-clause-cause
returns-clause-cause g c = λ was clean.
    let stayed = c.in_ok-stay.ensures in
    let did = c.load.ensures in
    let early = did.answer.holds.honest clean in
    faults_later (state g.S.Store c.args.self.now.conn) (state g.S.Store c.find_stay.new.self.conn) (state g.S.Store c.load.new.self.conn) _ _ stayed.survives did.survives early c.load.result
    (did.cause (stayed.answer.holds.kept was early) clean)
