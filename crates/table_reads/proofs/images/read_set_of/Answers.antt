use Rattle.std.proofs.Common.{◌≡◌, sym, subst, ◌∙◌}
use Rattle.std.specs.Prelude.{option_map}
use Rattle.sqlite.specs.Held.{state}
use Rattle.table_content.specs.View.{image}
use Rattle.table_reads.specs.FoundSets.{IsSetFound, found_under}
use Rattle.table_reads.proofs.KeptSteps.{kept_any, kept_then}
use Rattle.table_reads.proofs.KeyLemmas.{set_found}
use Rattle.table_reads.proofs.images.read_set_of.Goals as goal

pub returns-in-Some-clause-reads : goal.returns-in-Some-clause-reads
returns-in-Some-clause-reads g c =
    let old = state g.S.Store c.args.tx.now.conn.now in
    let mid = state g.S.Store c.read_small_key.new.tx.conn.now in
    let new = state g.S.Store c.read_found_set.new.tx.conn.now in
    kept_then old mid new c.in_ok-key.field-0 c.read_found_set.result (λ k key. key ≡ k.key c.args.number) (λ k found. found ≡ option_map (found_under c.in-Some.key) (image k c.in-Some.key))
    (λ k found. IsSetFound k c.args.number found)
    (λ k found kept p q. subst (IsSetFound k c.args.number) (sym q) (set_found k kept c.args.number c.in-Some.key (sym p ∙ c.in-Some.is)))
    c.in_ok-key.ensures.reads
    (kept_any mid new c.read_found_set.result (λ k found. found ≡ option_map (found_under c.in-Some.key) (image k c.in-Some.key)) (λ k found. found ≡ option_map (found_under c.in-Some.key) (image k c.in-Some.key))
    (λ k found kept p. p) c.read_found_set.ensures.reads)
