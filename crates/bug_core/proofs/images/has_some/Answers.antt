use Rattle.std.proofs.Common.{◌≡◌, true, false, ◌∙◌, arith}
use Rattle.std.specs.List.{list_any}
use Rattle.std.specs.Ordering.{nat_cmp}
use Rattle.std.specs.BTreeMap.{is_at}
use Rattle.std.proofs.lemmas.Grind.{common_steps}
use Rattle.bug_core.proofs.NamedLemmas.{any-member}
use Rattle.bug_core.proofs.images.has_some.Goals as goal

pub returns : goal.returns
returns c =
    let none : false ≡ list_any (λ m. list_any (is_at (nat_cmp m.number)) c.args.numbers.now.keys) c.args.members.now =
    grind (arith, common_steps) in
    none ∙ any-member c.args.members.now c.args.numbers.now.keys

pub returns-then-contains : goal.returns-then-contains
returns-then-contains c =
    let found : true ≡ list_any (λ m. list_any (is_at (nat_cmp m.number)) c.args.numbers.now.keys) c.args.members.now =
    grind (arith, common_steps) in
    found ∙ any-member c.args.members.now c.args.numbers.now.keys
