use Rattle.std.proofs.Common.{◌≡◌, sym, ap, ◌∙◌}
use Rattle.std.specs.List.{find}
use Rattle.sqlite.specs.Held.{state}
use Rattle.version_nodes.specs.Statuses.{status}
use Rattle.version_nodes.specs.Trees.{Ancestry, heads}
use Rattle.bug_record.specs.Heads.{is_found}
use Rattle.table_content.specs.View.{desk_in}
use Rattle.store_contract.specs.Store.{IsOpenHead}
use Rattle.table_reads.specs.Asked.{IsSetIn, IsAskedFor}
use Rattle.table_reads.proofs.WhereSteps.{where_more}
use Rattle.table_reads.proofs.heads.read_open_head.Goals as goal

pub returns-clause-acts : goal.returns-clause-acts
returns-clause-acts g c =
    let old = state g.S.Store c.args.tx.now.conn.now in
    let new = state g.S.Store c.read_first_open.new.tx.conn.now in
    where_more old new c.read_first_open.result (IsSetIn c.args.image.now) (IsAskedFor c.args.family.now c.args.image.now)
    (λ k node. node ≡ find (λ v. is_found (status k.nodes c.args.image.now.shared.found c.args.image.now.shared.fixed c.args.image.now.shared.closed v)) c.as_slice.result.now)
    (λ k head. IsOpenHead (desk_in k) c.args.image.now head)
    (λ k asked. asked.image)
    (λ k head asked p. p ∙ ap (find (λ v. is_found (status k.nodes c.args.image.now.shared.found c.args.image.now.shared.fixed c.args.image.now.shared.closed v)))
    (c.as_slice.ensures.value ∙ c.in_ok-nodes.ensures.value ∙ ap (λ (t : Ancestry). heads t c.args.image.now.shared.«package») (sym asked.nodes)))
    c.read_first_open.ensures.reads
