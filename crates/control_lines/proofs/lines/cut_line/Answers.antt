use Rattle.std.proofs.Common.{ap, ◌∙◌, lit<}
use Rattle.std.proofs.lemmas.Str.Pattern.{split_parts}
use Rattle.control_lines.specs.Lines.{raw_lines}
use Rattle.control_lines.proofs.LineLemmas.{no_feed, raw_lines-first, raw_lines-last}
use Rattle.control_lines.proofs.lines.cut_line.Goals as goal

pub returns-in-Some-clause-lines : goal.returns-in-Some-clause-lines
returns-in-Some-clause-lines c =
    let parts = rw c.in-Some.is at (split_parts 10 c.args.text.now c.split_once.result c.split_once.ensures.cases (lit< tt)) in
    ap raw_lines parts.0 ∙ raw_lines-first c.in-Some.line.now c.in-Some.rest.now (no_feed c.in-Some.line.now parts.1)

pub returns-in-None-clause-lines : goal.returns-in-None-clause-lines
returns-in-None-clause-lines c =
    let parts = rw c.in-None.is at (split_parts 10 c.args.text.now c.split_once.result c.split_once.ensures.cases (lit< tt)) in
    raw_lines-last c.args.text.now c.requires (no_feed c.args.text.now parts)
