use Rattle.std.proofs.Common.{◌∙◌, ap}
use Rattle.bug_record.specs.Words.{number_of_name}
use Rattle.store_contract.specs.Known.{Known}
use Rattle.store_contract.proofs.KnownLemmas.{number-got}
use Rattle.store_contract.proofs.known.KnownNames.number_of.Goals as goal

pub returns : goal.returns
returns c =
    c.copied.ensures
    ∙ (c.get.ensures.value
    ∙ (number-got c.self.inside.numbers.entries c.args.name
    ∙ ap (λ (k : Known). number_of_name k.names c.args.name) c.self.view_is))
