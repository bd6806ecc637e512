use Rattle.std.proofs.Common.{ap, sym, ◌∙◌, lit<}
use Rattle.std.proofs.lemmas.Str.Pattern.{strip_suffix_char}
use Rattle.control_lines.specs.Lines.{without_return}
use Rattle.control_lines.proofs.LineLemmas.{without_return-ended, without_return-none}
use Rattle.control_lines.proofs.lines.without_return.Goals as goal

pub returns-in-Some : goal.returns-in-Some
returns-in-Some c =
    let ended = rw c.in-Some.is at
    (strip_suffix_char 13 c.args.line.now c.strip_suffix.result c.strip_suffix.ensures.cases (lit< tt)) in
    sym (ap without_return ended ∙ without_return-ended c.in-Some.rest.now)

pub returns-in-None : goal.returns-in-None
returns-in-None c =
    let ended = rw c.in-None.is at
    (strip_suffix_char 13 c.args.line.now c.strip_suffix.result c.strip_suffix.ensures.cases (lit< tt)) in
    sym (without_return-none c.args.line.now ended)
