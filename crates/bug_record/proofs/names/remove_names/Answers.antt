use Rattle.std.proofs.Common.{ap, ◌∙◌}
use Rattle.std.specs.Prelude.{not, filter}
use Rattle.bug_record.specs.PackageSets.{has_name}
use Rattle.bug_record.proofs.PackageLemmas.{has-name_set}
use Rattle.bug_record.proofs.names.remove_names.Goals as goal

pub returns-clause-ok : goal.returns-clause-ok
returns-clause-ok c =
    c.remove_set.ensures
    ∙ (λ j. filter (λ n. not ((ap (λ ks. has_name ks n) c.in_ok-set.ensures ∙ has-name_set c.args.names.now n) j))
    c.args.list.now)
