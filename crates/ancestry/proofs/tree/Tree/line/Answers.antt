use Rattle.std.proofs.Common.{◌++◌, [], ◌∷◌, length, ap, sym, ◌∙◌, append_assoc, arith}
use Rattle.std.specs.Option.{option_copied}
use Rattle.version_nodes.specs.Trees.{line}
use Rattle.ancestry.proofs.LineLemmas.{line_above}
use Rattle.ancestry.proofs.WalkLemmas.{walk_step}
use Rattle.ancestry.proofs.tree.Tree.line.Goals as goal

pub loop-at-smaller : goal.loop-at-smaller
loop-at-smaller c =
    let step = walk_step c.args.self.now c.loop-at.at c.parent-at.result c.in-Some.here c.parent-at.ensures.forest c.in-Some.is
    c.parent-at.ensures.value in
    omega (arith, ap length step)

pub loop-at-preserved : goal.loop-at-preserved
loop-at-preserved c =
    let t = c.args.self.now in
    let before = c.loop-at.nodes.items in
    let here = c.in-Some.here.now in
    let above = line_above (line t) (option_copied c.parent-at.result) in
    let step = walk_step t c.loop-at.at c.parent-at.result c.in-Some.here c.parent-at.ensures.forest c.in-Some.is
    c.parent-at.ensures.value in
    ap (λ nodes. nodes ++ above) c.in_ok-push.ensures.items ∙ ap (λ n. (before ++ n ∷ []) ++ above) c.in_ok-copy.ensures.value
    ∙ append_assoc before (here ∷ []) above ∙ sym (ap (λ nodes. before ++ nodes) step) ∙ c.loop-at.invariant
