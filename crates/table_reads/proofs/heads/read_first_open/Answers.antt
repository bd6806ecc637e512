use Rattle.std.proofs.Common.{◌≡◌, Some, ◌∙◌}
use Rattle.std.specs.List.{find}
use Rattle.sqlite.specs.Held.{state}
use Rattle.version_nodes.specs.Statuses.{status}
use Rattle.bug_record.specs.Heads.{is_found}
use Rattle.store_keys.specs.Keys.{key_of}
use Rattle.table_reads.specs.Asked.{IsSetIn}
use Rattle.table_reads.specs.Found.{is_found_at}
use Rattle.table_reads.proofs.OpenLemmas.{same_first}
use Rattle.table_reads.proofs.WhereSteps.{where_then}
use Rattle.table_reads.proofs.heads.read_first_open.Goals as goal

pub returns-clause-reads : goal.returns-clause-reads
returns-clause-reads g c =
    let old = state g.S.Store c.args.tx.now.conn.now in
    let mid = state g.S.Store c.read_set_key.new.tx.conn.now in
    let new = state g.S.Store c.find_open.new.tx.conn.now in
    where_then old mid new c.in_ok-key.key c.find_open.result (IsSetIn c.args.image.now) (λ k key. k.key (key_of c.args.image.now) ≡ Some key)
    (λ k node. node ≡ find (λ v. is_found_at k c.in_ok-key.key v c.args.image.now.shared) c.args.nodes.now)
    (λ k node. node ≡ find (λ v. is_found (status k.nodes c.args.image.now.shared.found c.args.image.now.shared.fixed c.args.image.now.shared.closed v)) c.args.nodes.now)
    (λ k node asked p q. q ∙ same_first c.args.image.now k asked c.in_ok-key.key p c.args.nodes.now)
    c.in_ok-key.ensures.reads c.find_open.ensures.reads
