use Rattle.std.proofs.Common.{◌++◌, codes, ap, sym, ◌∙◌}
use Rattle.std.proofs.lemmas.List.{append_assoc}
use Rattle.std.specs.Fmt.{decimal}
use Rattle.desk_text.proofs.answers.number_line.Goals as goal

pub returns-in-Ok : goal.returns-in-Ok
returns-in-Ok c =
    let before = c.args.before.now in
    let number = decimal c.args.number in
    c.in-Ok.ensures.ok ∙ ap (λ w. w ++ (before ++ (number ++ codes "\n"))) c.in_ok-line.ensures.items
    ∙ sym (append_assoc before number (codes "\n"))
