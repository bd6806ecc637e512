use Rattle.message_directives.proofs.ReportLemmas.{of-two-texts}
use Rattle.message_directives.proofs.reporting.node_of.Goals as goal

pub returns : goal.returns
returns g c =
    rw (← c.in_ok-source.ensures, ← c.in_ok-version.ensures)
    (of-two-texts c.in_ok-source.source c.in_ok-version.version c.with_version.result c.with_version.ensures)
