use Rattle.std.proofs.Common.{ap, sym, ◌∙◌}
use Rattle.debver.specs.Names.{wrong_in_name}
use Rattle.debver.proofs.NameLaws.{name_is, no_name}
use Rattle.debver.proofs.name.check_name.Goals as goal

pub returns-in-Some-clause-name : goal.returns-in-Some-clause-name
returns-in-Some-clause-name c =
    no_name c.args.name.now c.in-Some.place
    (ap wrong_in_name (sym c.as_bytes.ensures.value) ∙ sym c.wrong_in_name.ensures ∙ c.in-Some.is)

pub returns-else-name-gt100-clause-name : goal.returns-else-name-gt100-clause-name
returns-else-name-gt100-clause-name c =
    let right = ap wrong_in_name (sym c.as_bytes.ensures.value) ∙ sym c.wrong_in_name.ensures ∙ c.in_default.is in
    name_is c.args.name.now c.if-name-lt2.false right c.if-name-gt100.false
