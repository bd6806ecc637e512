use Rattle.std.proofs.Common.{length, sym, ap, ◌∙◌, arith}
use Rattle.std.proofs.lemmas.Grind.{common_steps}
use Rattle.std.proofs.lemmas.Result.{IfOk-weaker}
use Rattle.bug_images.proofs.ChangedLemmas.{changed-joined}
use Rattle.std.proofs.lemmas.Option.{none-some, slice_get_past}
use Rattle.bug_images.proofs.changes.changed_among.Goals as goal

pub returns : goal.returns
returns c = IfOk-weaker c.in_order.result _ _
    (λ r e. changed-joined c.args.old.now c.args.new.now c.args.before.now c.args.after.now c.new-set.result.keys
    c.add_images.new.set.keys c.add_images-2.new.set.keys r
    c.requires.before c.requires.after c.new-set.ensures.empty c.in_ok-add_images.ensures.numbers
    c.in_ok-add_images-2.ensures.numbers e) c.in_order.ensures

pub add_images-requires-2 : goal.add_images-requires-2
add_images-requires-2 c = grind (arith, common_steps)

pub add_images-requires : goal.add_images-requires
add_images-requires c = record { right = λ i j p q. absurd (none-some i (sym (slice_get_past c.args.before.now (length c.args.old.now) (omega (arith, ap length c.requires.before))) ∙ p)) }
