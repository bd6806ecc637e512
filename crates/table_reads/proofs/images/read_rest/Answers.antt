use Rattle.std.proofs.Common.{◌≡◌}
use Rattle.sqlite.specs.Held.{state}
use Rattle.table_content.specs.View.{shared_of}
use Rattle.table_schema.proofs.ReadSteps.{known_first, known_then, known_answer}
use Rattle.table_reads.specs.Bugs.{image_with}
use Rattle.table_reads.proofs.KeyLemmas.{image_of_parts}
use Rattle.table_reads.proofs.images.read_rest.Goals as goal

pub returns-clause-reads : goal.returns-clause-reads
returns-clause-reads g c =
    let old = state g.S.Store c.args.tx.now.conn.now in
    let mid = state g.S.Store c.read_agreed.new.tx.conn.now in
    let new = state g.S.Store c.read_members.new.tx.conn.now in
    known_answer old new _ (λ k. (c.in_ok-shared.shared ≡ shared_of k c.args.key c.args.fields) × (c.in_ok-members.members ≡ k.members c.args.key))
    (λ k found. found ≡ image_with k c.args.key c.args.fields) (λ k p. (image_of_parts k c.args.key c.args.fields _ _ p.0 p.1, tt))
    (known_then old mid new c.in_ok-members.members (λ k. c.in_ok-shared.shared ≡ shared_of k c.args.key c.args.fields) (λ k members. members ≡ k.members c.args.key)
    (known_first old mid c.in_ok-shared.shared (λ k shared. shared ≡ shared_of k c.args.key c.args.fields) c.in_ok-shared.ensures.reads) c.in_ok-members.ensures.reads)
