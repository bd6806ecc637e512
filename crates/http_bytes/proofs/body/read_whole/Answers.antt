use Rattle.std.proofs.Common.{rules, arith, ◌≡◌, length, take, drop, ◌++◌, ap, ◌∙◌}
use Rattle.std.proofs.lemmas.List.{take_at}
use Rattle.http_bytes.proofs.BodyLemmas.{body-cut, body-whole}
use Rattle.http_bytes.proofs.body.read_whole.Goals as goal

pub returns-then-total-size-clause-whole : goal.returns-then-total-size-clause-whole
returns-then-total-size-clause-whole g c =
    body-cut _ _ _ _ c.args.here.now c.args.size _ _ c.in_ok-total.ensures.came c.min-known.ensures c.if-total-size.true
    (c.in_ok-total.ensures.ended (omega (arith, c.fill.auto.buf, ap length c.deref_mut.ensures.value ∙ c.in_ok-body.ensures.long)))

pub returns-clause-whole : goal.returns-clause-whole
returns-clause-whole g c =
    let m = c.min-known.ensures in
    let f = c.in_ok-total.ensures.came in
    let l : length c.fill.new.buf ≡ c.args.size =
    omega (arith, c.fill.auto.buf, ap length c.deref_mut.ensures.value ∙ c.in_ok-body.ensures.long) in
    let s = body-whole _ _ _ _ c.args.here.now c.args.size _ _ f l m
    (ap (take c.min-known.result) c.deref_mut.ensures.value ∙ rw m c.in_ok-body.ensures.begins) c.if-total-size.false in
    let long : length c.fill.new.buf ≡ c.in_ok-body.body.len = omega (arith, l, c.in_ok-body.body.ok.0, c.in_ok-body.ensures.long) in
    let back : take c.in_ok-body.body.len (c.fill.new.buf ++ drop (length c.fill.new.buf) c.in_ok-body.body.items) ≡ c.fill.new.buf =
    take_at c.fill.new.buf (drop (length c.fill.new.buf) c.in_ok-body.body.items) c.in_ok-body.body.len long in
    simp back s

pub returns-then-total-size-clause-taken : goal.returns-then-total-size-clause-taken
returns-then-total-size-clause-taken g c = search rules
