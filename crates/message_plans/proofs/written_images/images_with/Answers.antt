use Rattle.std.proofs.Common.{rules, ◌≡◌, ℕ, ap, ◌∙◌}
use Rattle.std.specs.Prelude.{filter}
use Rattle.std.specs.BTreeSet.{contains}
use Rattle.std.specs.Ordering.{nat_cmp}
use Rattle.std.proofs.lemmas.Fn.{filter_same}
use Rattle.bug_record.specs.Sets.{has}
use Rattle.bug_record.specs.declared.bug.SetImage.{SetImage}
use Rattle.base_sequences.proofs.OrderedLemmas.{has-key}
use Rattle.base_sequences.proofs.SetLemmas.{has-number_set}
use Rattle.message_plans.specs.Images.{meets}
use Rattle.message_plans.proofs.written_images.images_with.Goals as goal

pub returns : goal.returns
returns c =
    let same : (n : ℕ) → contains nat_cmp c.in_ok-bugs.bugs n ≡ has c.args.numbers.now n
    = λ n. has-key c.in_ok-bugs.bugs.keys n ∙ ap (λ ks. has ks n) c.in_ok-bugs.ensures ∙ has-number_set c.args.numbers.now n in
    filter_same _ (λ (i : SetImage). meets (contains nat_cmp c.in_ok-bugs.bugs) i.members) _ (λ x b f' k. search rules) _ _
    c.retain.ensures
    ∙ (λ j. filter (λ (i : SetImage). meets (λ n. same n j) i.members) c.args.images)
