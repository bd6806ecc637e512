use Rattle.std.proofs.Common.{◌≡◌, ◌≤◌, ◌<◌, ◌+◌, Bool, true, false, take, length, Err, ◌∙◌, sym, rules, arith}
use Rattle.std.specs.Prelude.{⊤}
use Rattle.sqlite.specs.Held.{state}
use Rattle.table_content.specs.Changes.{keeps_marks, all_stay}
use Rattle.table_content.specs.Content.{Content}
use Rattle.table_schema.proofs.ReadSteps.{known_then, known_stop, known_weaker, known_answer}
use Rattle.table_schema.proofs.StepLemmas.{none, serves_last}
use Rattle.table_writes.proofs.MarksStayLemmas.{answered, one_stays, one_differs, each_stays}
use Rattle.table_writes.proofs.marks_stay.read_marks_stay.Goals as goal

pub returns-in_err-stays-clause-reads : goal.returns-in_err-stays-clause-reads
returns-in_err-stays-clause-reads g c =
    let is : c.from_residual.result ≡ Err c.in_err-stays.field-0.0 = search rules in
    rw is (known_stop (state g.S.Store c.args.tx.now.conn.now) (state g.S.Store c.loop-image.tx.conn.now) (state g.S.Store c.read_stays.new.tx.conn.now) c.in_err-stays.field-0.0
    (λ k. all_stay k (take c.loop-image.image-index c.args.images.now) ≡ true) (λ k stays. stays ≡ keeps_marks k c.image-item.result) _ c.loop-image.invariant.known c.in_err-stays.ensures.reads)

pub loop-image-preserved : goal.loop-image-preserved
loop-image-preserved g c =
    let old = state g.S.Store c.args.tx.now.conn.now in
    let mid = state g.S.Store c.loop-image.tx.conn.now in
    let new = state g.S.Store c.read_stays.new.tx.conn.now in
    let images = c.args.images.now in
    let at = c.loop-image.image-index in
    let before = (λ (k : Content). all_stay k (take at images) ≡ true) in
    let here = (λ (k : Content) (stays : Bool). stays ≡ keeps_marks k c.image-item.result) in
    record {
      same = c.read_stays.ensures.same_reference ∙ c.loop-image.invariant.same;
      known = known_weaker old new (λ k. before k × here k c.in_ok-stays.stays) (λ k. all_stay k (take (at + 1) images) ≡ true)
          (λ k p. one_stays k images at c.image-item.result c.loop-image-test.true c.image-item.is p.0 (sym p.1 ∙ c.if-not-stays.false))
          (known_then old mid new c.in_ok-stays.stays before here c.loop-image.invariant.known c.in_ok-stays.ensures.reads);
      served = λ low. serves_last old mid new none (answered c.in_ok-stays.stays) (λ _. ⊤) (λ _. ⊤) (λ c d _. (d ≡ c) × before c) (λ c d stays. (d ≡ c) × here c stays)
          c.loop-image.invariant.known c.in_ok-stays.ensures.reads c.in_ok-stays.ensures.serves;
    }

pub returns-then-not-stays-clause-reads : goal.returns-then-not-stays-clause-reads
returns-then-not-stays-clause-reads g c =
    let old = state g.S.Store c.args.tx.now.conn.now in
    let mid = state g.S.Store c.loop-image.tx.conn.now in
    let new = state g.S.Store c.read_stays.new.tx.conn.now in
    let images = c.args.images.now in
    let at = c.loop-image.image-index in
    let before = (λ (k : Content). all_stay k (take at images) ≡ true) in
    let here = (λ (k : Content) (stays : Bool). stays ≡ keeps_marks k c.image-item.result) in
    known_answer old new (answered false) (λ k. before k × here k c.in_ok-stays.stays) (λ k stay. stay ≡ all_stay k images)
    (λ k p. (sym (one_differs k images at c.image-item.result c.loop-image-test.true c.image-item.is (sym p.1 ∙ c.if-not-stays.true)), tt))
    (known_then old mid new c.in_ok-stays.stays before here c.loop-image.invariant.known c.in_ok-stays.ensures.reads)

pub returns-clause-reads : goal.returns-clause-reads
returns-clause-reads g c =
    let past : length c.args.images.now ≤ c.loop-image.image-index = omega (arith, c.loop-image-test.false) in
    known_answer (state g.S.Store c.args.tx.now.conn.now) (state g.S.Store c.loop-image.tx.conn.now) (answered true)
    (λ k. all_stay k (take c.loop-image.image-index c.args.images.now) ≡ true) (λ k stay. stay ≡ all_stay k c.args.images.now)
    (λ k stay. (sym (each_stays k c.args.images.now c.loop-image.image-index past stay), tt)) c.loop-image.invariant.known

pub returns-then-not-stays-clause-serves : goal.returns-then-not-stays-clause-serves
returns-then-not-stays-clause-serves g c =
    let before = (λ (k : Content). all_stay k (take c.loop-image.image-index c.args.images.now) ≡ true) in
    let here = (λ (k : Content) (stays : Bool). stays ≡ keeps_marks k c.image-item.result) in
    serves_last (state g.S.Store c.args.tx.now.conn.now) (state g.S.Store c.loop-image.tx.conn.now) (state g.S.Store c.read_stays.new.tx.conn.now) none (answered c.in_ok-stays.stays) (λ _. ⊤) (λ _. ⊤)
    (λ c d _. (d ≡ c) × before c) (λ c d stays. (d ≡ c) × here c stays) c.loop-image.invariant.known c.in_ok-stays.ensures.reads c.in_ok-stays.ensures.serves

pub returns-clause-serves : goal.returns-clause-serves
returns-clause-serves g c =
    let low : 0 < c.loop-image.image-index = omega (arith, c.loop-image-test.false, c.requires) in
    c.loop-image.invariant.served low
