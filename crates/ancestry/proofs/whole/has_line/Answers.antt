use Rattle.std.proofs.Common.{length, sym, ap, ◌∙◌, arith}
use Rattle.std.specs.Option.{option_copied}
use Rattle.ancestry.proofs.LineLemmas.{line_length, line_step, shorter_up}
use Rattle.ancestry.proofs.WholeLemmas.{line_up_from, root_line}
use Rattle.ancestry.proofs.whole.has_line.Goals as goal

pub loop-parent-init : goal.loop-parent-init
loop-parent-init c =
    let t = c.args.links.now.entries in
    let n = c.args.from.now in
    record {
      from = λ h. h;
      short = λ forest. omega (arith, line_length t forest.parents n _ (forest.lines n), c.len-steps.ensures.len);
    }

pub returns-then-steps-eq0-clause-sure : goal.returns-then-steps-eq0-clause-sure
returns-then-steps-eq0-clause-sure c = λ forest.
    let t = c.args.links.now.entries in
    let p = c.in-Some.parent.now in
    let up = shorter_up t c.loop-parent.at.now p forest (sym c.in-Some.ensures) in
    absurd (omega (arith, up, ap length (line_step t p forest), c.loop-parent.invariant.short forest))

pub loop-parent-preserved : goal.loop-parent-preserved
loop-parent-preserved c =
    let t = c.args.links.now.entries in
    let at = c.loop-parent.at.now in
    let p = c.in-Some.parent.now in
    record {
      from = λ h. c.loop-parent.invariant.from (line_up_from t at p (sym c.in-Some.ensures) h);
      short = λ forest. omega (arith, shorter_up t at p forest (sym c.in-Some.ensures), c.loop-parent.invariant.short forest);
    }

pub returns-clause-line : goal.returns-clause-line
returns-clause-line c = λ h.
    c.loop-parent.invariant.from (root_line c.args.links.now.entries c.loop-parent.at.now (sym c.parent_in.ensures ∙ ap option_copied c.in_default.is))
