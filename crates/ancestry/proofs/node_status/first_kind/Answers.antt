use Rattle.std.proofs.Common.{length, ap, sym, ◌∙◌, arith}
use Rattle.std.specs.Prelude.{option_map}
use Rattle.std.specs.Option.{option_copied}
use Rattle.version_nodes.specs.Trees.{line}
use Rattle.ancestry.proofs.LineLemmas.{line_above}
use Rattle.version_nodes.specs.Statuses.{first_marked, kind_at}
use Rattle.ancestry.proofs.WalkLemmas.{walk_step, unmarked}
use Rattle.ancestry.proofs.node_status.first_kind.Goals as goal

pub loop-at-smaller : goal.loop-at-smaller
loop-at-smaller c =
    let step = walk_step c.args.tree.now c.loop-at.at c.parent-at.result c.in-Some.here c.parent-at.ensures.forest c.in-Some.is
    c.parent-at.ensures.value in
    omega (arith, ap length step)

pub loop-at-preserved : goal.loop-at-preserved
loop-at-preserved c =
    let t = c.args.tree.now in
    let found = c.args.found.now in
    let fixed = c.args.fixed.now in
    let above = line_above (line t) (option_copied c.parent-at.result) in
    let step = walk_step t c.loop-at.at c.parent-at.result c.in-Some.here c.parent-at.ensures.forest c.in-Some.is
    c.parent-at.ensures.value in
    let none =
    unmarked found fixed above c.in-Some.here.now (sym c.has_node.ensures ∙ c.if-has_node.false)
    (sym c.has_node-in-Some.ensures ∙ c.if-has_node-2.false) in
    sym (ap (option_map (kind_at found)) (ap (first_marked found fixed) step ∙ none)) ∙ c.loop-at.invariant
