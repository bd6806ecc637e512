use Rattle.table_schema.proofs.Exports.{ap, subst, ◌∙◌, state, HasCleanDisk}
use Rattle.desk_tables.proofs.Imports.{remembered}
use Rattle.table_opening.proofs.StillLemmas.{still_is}
use Rattle.desk_tables.proofs.OpeningLemmas.{new_is_kept, new_is_empty, none_is_kept, left_before}
use Rattle.desk_tables.proofs.desk.TableDesk.create.Goals as goal

pub found-requires-clause-stays : goal.found-requires-clause-stays
found-requires-clause-stays g c = still_is _ _ (ap (state g.S.Store) c.of-last.ensures)

pub returns-in-Ok-clause-kept : goal.returns-in-Ok-clause-kept
returns-in-Ok-clause-kept g c clean =
    let made = c.in-Ok.ensures.created.ok (subst (λ h. HasCleanDisk (state g.S.Store h)) c.found.ensures.conn clean) in
    new_is_kept g.S.Store c.args.first c.found.result.last.value c.create_tables.new.conn (c.found.ensures.last ∙ c.of-last.ensures) (made.1, made.2) c.found.result.family c.found.ensures.family (remembered c.found.result) c.found.ensures.known c.found.ensures.place c.found.ensures.next c.requires.some c.requires.few

pub returns-in-Ok-clause-empty : goal.returns-in-Ok-clause-empty
returns-in-Ok-clause-empty g c clean =
    let made = c.in-Ok.ensures.created.ok (subst (λ h. HasCleanDisk (state g.S.Store h)) c.found.ensures.conn clean) in
    new_is_empty g.S.Store c.args.first c.found.result.last.value c.create_tables.new.conn (c.found.ensures.last ∙ c.of-last.ensures) (made.1, made.2)

pub returns-in-Ok-clause-none_kept : goal.returns-in-Ok-clause-none_kept
returns-in-Ok-clause-none_kept g c clean =
    let made = c.in-Ok.ensures.created.ok (subst (λ h. HasCleanDisk (state g.S.Store h)) c.found.ensures.conn clean) in
    none_is_kept g.S.Store c.args.first c.found.result.last.value c.create_tables.new.conn (c.found.ensures.last ∙ c.of-last.ensures) (made.1, made.2)

pub returns-in-Err-clause-left : goal.returns-in-Err-clause-left
returns-in-Err-clause-left g c =
    left_before g.S.Store c.args.conn c.set_step_limit.new.self c.set_step_limit.ensures (state g.S.Store c.create_tables.new.conn) c.in-Err.ensures.created.err
