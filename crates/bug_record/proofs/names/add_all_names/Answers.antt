use Rattle.std.proofs.Common.{◌≡◌, List, ℕ, ◌++◌, ap, ◌∙◌}
use Rattle.base_sequences.specs.Ordered.{with_each}
use Rattle.bug_record.specs.PackageSets.{name_cmp, name_set}
use Rattle.bug_record.proofs.PackageLemmas.{each-names_append}
use Rattle.bug_record.proofs.names.add_all_names.Goals as goal

pub returns-clause-ok : goal.returns-clause-ok
returns-clause-ok c =
    let set : c.add_names.new.set.keys ≡ with_each name_cmp (name_set c.as_slice.result.now) c.args.names.now
    = c.in_ok-add_names.ensures ∙ ap (λ (ks : List (List ℕ)). with_each name_cmp ks c.args.names.now) c.in_ok-set.ensures in
    c.in_ok-list.ensures ∙ set ∙ each-names_append c.as_slice.result.now c.args.names.now
    ∙ ap (λ (ms : List (List ℕ)). name_set (ms ++ c.args.names.now)) c.as_slice.ensures
