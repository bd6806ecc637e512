use Rattle.std.proofs.Common.{◌∙◌, ap, sym, subst}
use Rattle.std.proofs.lemmas.Result.{IfOk-weaker}
use Rattle.bug_record.specs.Commands.{HasGoodParts, names_in}
use Rattle.store_contract.specs.Telling.{number_told, result_meant, step_among}
use Rattle.store_contract.proofs.OverLemmas.{names-over, parts-over}
use Rattle.store_contract.proofs.StepLemmas.{step-told}
use Rattle.store_contract.proofs.telling.command_told.Goals as goal

pub returns-clause-meant : goal.returns-clause-meant
returns-clause-meant c =
    IfOk-weaker c.numbered.result _ _
    (λ told e known good d sender sound.
    ap (λ z. result_meant (step_among c.args.known.now.names d sender z)) e
    ∙ step-told c.args.known.now.names known d sender c.args.command sound good)
    c.numbered.ensures

pub returns-clause-parts : goal.returns-clause-parts
returns-clause-parts c =
    IfOk-weaker c.numbered.result _ _
    (λ told e parts. subst HasGoodParts (sym e) (parts-over (number_told c.args.known.now.names) c.args.command parts))
    c.numbered.ensures

pub returns-clause-names : goal.returns-clause-names
returns-clause-names c =
    IfOk-weaker c.numbered.result _ _
    (λ told e. ap names_in e ∙ names-over (number_told c.args.known.now.names) c.args.command)
    c.numbered.ensures
