use Rattle.std.proofs.Common.{◌≡◌, Bool, Result, Ok, sym, ap, ◌∙◌}
use Rattle.std.specs.Prelude.{⊤}
use Rattle.sqlite.specs.Held.{state}
use Rattle.base_faults.specs.declared.store_fault.StoreFault.{StoreFault}
use Rattle.table_content.specs.Kept.{IsKeptContent}
use Rattle.table_schema.proofs.StepLemmas.{reads_work}
use Rattle.table_reads.specs.Found.{decided, near_kind, is_found_by, is_found_in}
use Rattle.table_reads.proofs.FoundLemmas.{decided_right}
use Rattle.table_reads.proofs.KeptSteps.{reads_then}
use Rattle.table_reads.proofs.found.read_found_in.Goals as goal

pub returns-in-Some-clause-reads : goal.returns-in-Some-clause-reads
returns-in-Some-clause-reads g c =
    let old = state g.S.Store c.args.tx.now.conn.now in
    let new = state g.S.Store c.read_near_kind.new.tx.conn.now in
    let answer : Result Bool StoreFault = Ok c.in-Some.found in
    reads_work old new c.in_ok-nearest.nearest answer (λ _. ⊤) (λ k kind. kind ≡ near_kind k c.args.key c.args.node.now)
    (λ k found. IsKeptContent k → found ≡ is_found_in k c.args.key c.args.node.now c.args.closed)
    (λ k p. (λ kept. decided_right k c.args.key c.args.node.now kept c.args.closed c.in-Some.found (ap (λ kind. decided kind c.args.closed) (sym p) ∙ sym c.decided.ensures ∙ c.in-Some.is), tt))
    c.in_ok-nearest.ensures.reads

pub returns-in-None-clause-reads : goal.returns-in-None-clause-reads
returns-in-None-clause-reads g c =
    let old = state g.S.Store c.args.tx.now.conn.now in
    let mid = state g.S.Store c.read_near_kind.new.tx.conn.now in
    let new = state g.S.Store c.read_found_by.new.tx.conn.now in
    reads_then old mid new c.in_ok-nearest.nearest c.read_found_by.result (λ k kind. kind ≡ near_kind k c.args.key c.args.node.now)
    (λ k found. found ≡ is_found_by (k.found c.args.key) (k.fixed c.args.key) c.args.closed c.in_ok-nearest.nearest c.args.node.now)
    (λ k found. IsKeptContent k → found ≡ is_found_in k c.args.key c.args.node.now c.args.closed)
    (λ k found p q kept. q ∙ ap (λ kind. is_found_by (k.found c.args.key) (k.fixed c.args.key) c.args.closed kind c.args.node.now) p)
    c.in_ok-nearest.ensures.reads c.read_found_by.ensures.reads
