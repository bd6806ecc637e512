use Rattle.std.proofs.Common.{[], ap, ◌∙◌}
use Rattle.bug_core.specs.Joins.{with_members, without_own, gathered_shared}
use Rattle.bug_core.proofs.NamedLemmas.{those-same}
use Rattle.bug_core.proofs.joins.joined_image.Goals as goal

pub returns : goal.returns
returns c =
    let members = c.in_ok-members.ensures
    ∙ ap (with_members []) (those-same c.args.set.now.keys c.args.numbers.now c.requires.set c.args.images.now) in
    λ j. record {
      shared = (c.in_ok-shared.ensures
          ∙ (λ k. without_own ((c.as_slice-own.ensures ∙ members) k) (gathered_shared c.args.first.now c.args.images.now c.args.numbers.now))) j;
      members = members j;
    }
