use Rattle.std.proofs.Common.{◌≡◌, List, ap, ◌∙◌, subst, IfOk}
use Rattle.bug_record.specs.Bugs.{bugs_at}
use Rattle.bug_record.specs.Images.{bug_in}
use Rattle.bug_record.specs.Merges.{first_owner}
use Rattle.bug_record.specs.declared.bug.SetImage.{SetImage}
use Rattle.bug_record.specs.declared.bug.Shared.{Shared}
use Rattle.bug_core.specs.Joins.{without_gathered, with_all_shared, without_own}
use Rattle.bug_core.specs.Named.{named_numbers}
use Rattle.bug_core.specs.Others.{those_meant}
use Rattle.bug_core.proofs.NamedLemmas.{those-same}
use Rattle.bug_core.proofs.joins.gathered_shared.Goals as goal

pub returns-in-Ok : goal.returns-in-Ok
returns-in-Ok c =
    let fields : c.in_ok-shared.shared
    ≡ with_all_shared (without_gathered c.args.first.now) (those_meant c.args.numbers.now c.args.images.now)
    = c.in_ok-shared.ensures
    ∙ (λ j. with_all_shared (without_gathered c.args.first.now)
    (those-same (named_numbers c.args.named) c.args.numbers.now c.requires.named c.args.images.now j)) in
    let owner : first_owner (bugs_at (bug_in c.args.lookup.now) c.args.numbers.now)
    ≡ first_owner (bugs_at (bug_in c.args.images.now) c.args.numbers.now)
    = ap (λ (is : List SetImage). first_owner (bugs_at (bug_in is) c.args.numbers.now)) c.requires.images in
    subst (λ (f : Shared). IfOk c.of.result (λ (g : Shared). g ≡ f))
    (c.in-Ok.ensures ∙ (λ j. without_own c.args.members.now (record (fields j) { owner = owner j })))
    c.of.ensures
