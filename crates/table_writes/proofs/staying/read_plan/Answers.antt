use Rattle.std.proofs.Common.{◌≡◌, true, List, sym, ap, ◌∙◌}
use Rattle.std.specs.Prelude.{IfSome}
use Rattle.sqlite.specs.Held.{state}
use Rattle.store_keys.specs.Keys.{key_of}
use Rattle.table_content.specs.declared.edit.Edit.{Edit}
use Rattle.table_writes.specs.Plans.{IsStayOf, IsStayPlan}
use Rattle.table_writes.proofs.ReadSteps.{reads_then}
use Rattle.table_writes.proofs.StaySteps.{with_bugs}
use Rattle.table_writes.proofs.staying.read_plan.Goals as goal

pub returns-clause-reads : goal.returns-clause-reads
returns-clause-reads g c =
    let old = state g.S.Store c.args.tx.now.conn.now in
    let mid = state g.S.Store c.has_members.new.tx.conn.now in
    let new = state g.S.Store c.stay_set.new.tx.conn.now in
    let i = c.args.image.now in
    let t = c.args.family.now in
    let key = c.in_ok-key.key in
    let is_key : key ≡ key_of i = c.in_ok-key.ensures.same ∙ c.key_of.ensures in
    reads_then old mid new c.in_ok-stays.stays c.stay_set.result (λ x same. same ≡ true → x.members key ≡ c.as_slice.result.now)
    (λ x p. IfSome p (λ (es : List Edit). IsStayOf x t i es)) (λ x p. IfSome p (λ (es : List Edit). IsStayPlan x t i es))
    (λ x p here stay. with_bugs x t i p (ap x.members (sym is_key) ∙ here c.if-not-stays.false ∙ c.as_slice.ensures) stay)
    c.in_ok-stays.ensures.reads c.stay_set.ensures.reads
