use Rattle.std.proofs.Common.{[], ◌∷◌, ◌++◌, ◌+◌, suc, ◌≡◌, ap, sym, arith, ◌∙◌}
use Rattle.bug_core.specs.Clones.{clone_images}
use Rattle.bug_core.proofs.CloneLemmas.{none_yet, one_more}
use Rattle.bug_core.proofs.clones.clone_images.Goals as goal

pub loop-i-init : goal.loop-i-init
loop-i-init c = c.new-images.ensures ∙ sym (none_yet c.args.shared.now c.args.member.now c.args.next)

pub loop-i-preserved : goal.loop-i-preserved
loop-i-preserved c =
    let next : suc c.loop-i.i ≡ c.loop-i.i + 1 = omega arith in
    c.in_ok-push.ensures.ok ∙ (λ j. c.loop-i.invariant j ++ c.in_ok-clone_image.ensures j ∷ [])
    ∙ sym (one_more c.args.shared.now c.args.member.now c.args.next c.loop-i.i)
    ∙ ap (clone_images c.args.shared.now c.args.member.now c.args.next) next
