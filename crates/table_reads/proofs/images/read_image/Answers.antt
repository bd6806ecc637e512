use Rattle.std.proofs.Common.{◌≡◌, sym, ◌∙◌}
use Rattle.sqlite.specs.Held.{state}
use Rattle.table_content.specs.View.{image}
use Rattle.table_reads.specs.Bugs.{image_with}
use Rattle.table_reads.proofs.KeptSteps.{reads_then}
use Rattle.table_reads.proofs.KeyLemmas.{image_is}
use Rattle.table_reads.proofs.images.read_image.Goals as goal

pub returns-in-Some-clause-reads : goal.returns-in-Some-clause-reads
returns-in-Some-clause-reads g c =
    reads_then (state g.S.Store c.args.tx.now.conn.now) (state g.S.Store c.read_fields.new.tx.conn.now) (state g.S.Store c.read_rest.new.tx.conn.now) c.in_ok-fields.field-0 c.read_rest.result
    (λ k fields. fields ≡ k.fields c.args.key) (λ k found. found ≡ image_with k c.args.key c.in-Some.fields) (λ k found. found ≡ image k c.args.key)
    (λ k found p q. q ∙ sym (image_is k c.args.key c.in-Some.fields (sym p ∙ c.in-Some.is))) c.in_ok-fields.ensures.reads c.read_rest.ensures.reads
