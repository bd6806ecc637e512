use Rattle.std.proofs.Common.{ℕ, List, ap, ◌∙◌}
use Rattle.base_sequences.specs.Ordered.{with_each}
use Rattle.bug_record.specs.PackageSets.{name_cmp}
use Rattle.bug_record.proofs.PackageLemmas.{each-name_set}
use Rattle.bug_record.proofs.names.name_set.Goals as goal

pub returns : goal.returns
returns c =
    c.in_ok-add_names.ensures
    ∙ ap (λ (ks : List (List ℕ)). with_each name_cmp ks c.args.names.now) c.new-set.ensures.empty
    ∙ each-name_set c.args.names.now
