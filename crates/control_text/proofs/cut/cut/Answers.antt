use Rattle.std.proofs.Common.{lit<, Some, None, sym, ◌∙◌}
use Rattle.std.proofs.lemmas.Str.Pattern.{strip_suffix_char}
use Rattle.control_text.proofs.CutLemmas.{text-comma, ends-comma, text-whole, ends-whole}
use Rattle.control_text.proofs.cut.cut.Goals as goal

pub returns-in-Some-clause-text : goal.returns-in-Some-clause-text
returns-in-Some-clause-text c =
    let comma = strip_suffix_char 44 c.args.word.now (Some c.in-Some.text) c.in-Some.ensures.cases (lit< tt) in
    text-comma c.args.word.now c.in-Some.text.now (sym c.eq.ensures ∙ c.if-eq.false) comma

pub returns-in-Some-clause-ends : goal.returns-in-Some-clause-ends
returns-in-Some-clause-ends c =
    let comma = strip_suffix_char 44 c.args.word.now (Some c.in-Some.text) c.in-Some.ensures.cases (lit< tt) in
    ends-comma c.args.word.now c.in-Some.text.now comma

pub returns-in-None-clause-text : goal.returns-in-None-clause-text
returns-in-None-clause-text c =
    let whole = strip_suffix_char 44 c.args.word.now None c.in-None.ensures.cases (lit< tt) in
    text-whole c.args.word.now (sym c.eq.ensures ∙ c.if-eq.false) whole

pub returns-in-None-clause-ends : goal.returns-in-None-clause-ends
returns-in-None-clause-ends c =
    let whole = strip_suffix_char 44 c.args.word.now None c.in-None.ensures.cases (lit< tt) in
    ends-whole c.args.word.now (sym c.eq.ensures ∙ c.if-eq.false) whole
