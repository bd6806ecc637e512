use Rattle.std.proofs.Common.{◌≡◌, ℕ, [], ◌∷◌}
use Rattle.std.specs.Option.{option_or}
use Rattle.std.specs.Ordering.{nat_cmp}
use Rattle.std.specs.BTreeMap.{get}
use Rattle.sqlite.specs.Held.{state}
use Rattle.version_marks.specs.Nearest.{nearest_on}
use Rattle.table_schema.proofs.ReadSteps.{known_first, known_weaker}
use Rattle.table_sets.specs.MarkedAt.{AreMarksAt}
use Rattle.table_writes.proofs.MarkedLemmas.{marks_added}
use Rattle.table_writes.proofs.first_marks.read_marks_of.Goals as goal

pub returns-clause-reads : goal.returns-clause-reads
returns-clause-reads g c =
    let old = state g.S.Store c.args.tx.now.conn.now in
    let new = state g.S.Store c.read_marks_at.new.tx.conn.now in
    let node = c.args.node.now in
    let marks = c.in_ok-marks.marks in
    known_weaker old new (λ x. AreMarksAt node x marks.items)
    (λ x. (k : ℕ) → get nat_cmp c.add_marks.new.first k ≡ option_or (get nat_cmp c.args.first.now k) (nearest_on (x.found k) (x.fixed k) (node ∷ [])))
    (λ x are. marks_added x node marks.items c.args.first.now c.add_marks.new.first are (rw c.as_slice.ensures.value at c.in_ok-add_marks.ensures))
    (known_first old new marks (λ x ms. AreMarksAt node x ms.items) c.in_ok-marks.ensures.reads)
