use Rattle.std.proofs.Common.{◌≡◌, sym, ◌∙◌, rules}
use Rattle.debver.specs.Versions.{total_cmp}
use Rattle.debver.proofs.OrderLaws.{total_ties_exactly}
use Rattle.debver.proofs.precedence.total.Goals as goal

pub returns-clause-equal : goal.returns-clause-equal
returns-clause-equal c =
    let same = total_ties_exactly c.args.a.now c.args.b.now in
    let e : c.then.result ≡ total_cmp c.args.a.now c.args.b.now = search rules in
    (λ h. same.0 (sym e ∙ h), λ h. e ∙ same.1 h)
