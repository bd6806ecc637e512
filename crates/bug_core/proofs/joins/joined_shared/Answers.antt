use Rattle.std.proofs.Common.{◌≡◌, ap, ◌∙◌, subst, IfOk}
use Rattle.bug_record.specs.declared.bug.Shared.{Shared}
use Rattle.bug_core.specs.Joins.{with_all_shared}
use Rattle.bug_core.specs.Named.{named_numbers}
use Rattle.bug_core.specs.Others.{those_meant}
use Rattle.bug_core.proofs.joins.joined_shared.Goals as goal

pub returns-in-Ok : goal.returns-in-Ok
returns-in-Ok c =
    subst (λ (joined : Shared). IfOk c.into_shared.result (λ (shared : Shared). shared ≡ joined))
    (c.in-Ok.ensures
    ∙ ap (λ (joined : Shared). with_all_shared joined (those_meant (named_numbers c.args.named) c.args.images.now))
    c.in_ok-joined.ensures)
    c.into_shared.ensures
