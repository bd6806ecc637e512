use Rattle.std.proofs.Common.{◌≡◌, Some, ◌∙◌}
use Rattle.sqlite.specs.Held.{state}
use Rattle.store_keys.specs.Keys.{key_of}
use Rattle.table_content.specs.View.{shared_of}
use Rattle.table_schema.proofs.ReadSteps.{known_first, known_answer}
use Rattle.table_writes.specs.Plans.{IsStayOf}
use Rattle.table_writes.proofs.StaySteps.{stands_read}
use Rattle.table_writes.proofs.staying.stay_image.Goals as goal

pub returns-clause-reads : goal.returns-clause-reads
returns-clause-reads g c =
    let old = state g.S.Store c.args.tx.now.conn.now in
    let new = state g.S.Store c.read_shared.new.tx.conn.now in
    let i = c.args.image.now in
    let t = c.args.family.now in
    let key = c.in_ok-key.key in
    let fields = c.args.fields in
    let before = c.in_ok-before.before in
    let r = c.stay_of.result in
    known_answer old new r (λ x. before ≡ shared_of x key fields) (λ x edits. x.fields (key_of i) ≡ Some fields → IsStayOf x t i edits)
    (λ x p. (stands_read t i before fields key r (c.in_ok-key.ensures.same ∙ c.key_of.ensures) c.stay_of.ensures.plan x p, c.stay_of.ensures.memory))
    (known_first old new before (λ x shared. shared ≡ shared_of x key fields) c.in_ok-before.ensures.reads)
