use Rattle.std.proofs.Common.{◌∙◌, rules}
use Rattle.std.specs.Prelude.{not, filter}
use Rattle.std.specs.List.{list_any}
use Rattle.std.specs.BTreeMap.{is_at}
use Rattle.std.proofs.lemmas.Fn.{filter_same}
use Rattle.bug_record.specs.PackageSets.{name_cmp}
use Rattle.bug_record.proofs.PackageLemmas.{has-name_key}
use Rattle.bug_record.proofs.names.remove_set.Goals as goal

pub returns : goal.returns
returns c =
    filter_same _ (λ n. not (list_any (is_at (name_cmp n)) c.args.set.now.keys)) _ (λ x b f' k. search rules) _ _
    c.retain.ensures
    ∙ (λ j. filter (λ n. not (has-name_key c.args.set.now.keys n j)) c.args.list.now)
