use Rattle.std.proofs.Common.{ap, sym, lit<, None}
use Rattle.std.proofs.lemmas.Str.Pattern.{strip_prefix_char}
use Rattle.control_parser.proofs.StepLemmas.{sign-none}
use Rattle.control_parser.proofs.signs.sign_and_rest.Goals as goal

pub returns-clause-sign : goal.returns-clause-sign
returns-clause-sign c =
    let w = c.args.word.now in
    sym (ap (λ x. x.0) (sign-none w
    (strip_prefix_char 43 w None c.in_default.ensures.cases (lit< tt))
    (strip_prefix_char 45 w None c.in_default-strip_prefix.ensures.cases (lit< tt))
    (strip_prefix_char 61 w None c.in_default-strip_prefix-2.ensures.cases (lit< tt))))

pub returns-clause-rest : goal.returns-clause-rest
returns-clause-rest c =
    let w = c.args.word.now in
    sym (ap (λ x. x.1) (sign-none w
    (strip_prefix_char 43 w None c.in_default.ensures.cases (lit< tt))
    (strip_prefix_char 45 w None c.in_default-strip_prefix.ensures.cases (lit< tt))
    (strip_prefix_char 61 w None c.in_default-strip_prefix-2.ensures.cases (lit< tt))))
