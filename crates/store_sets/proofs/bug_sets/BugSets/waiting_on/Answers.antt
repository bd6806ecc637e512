use Rattle.std.proofs.Common.{sym, ◌∙◌}
use Rattle.std.specs.Prelude.{nat_eq}
use Rattle.std.specs.HashSet.{contains}
use Rattle.store_sets.specs.Places.{keys, sets}
use Rattle.store_sets.proofs.NamedLemmas.{none_wait}
use Rattle.store_sets.proofs.bug_sets.BugSets.waiting_on.Goals as goal

pub returns-then-not-contains : goal.returns-then-not-contains
returns-then-not-contains c = λ tree next sound.
    let bugs = c.args.self.now in
    c.new.ensures
    ∙ sym (none_wait (keys bugs.places) (sets bugs.places) (contains nat_eq bugs.blockers) c.args.number bugs.named
    (sym c.contains.ensures ∙ c.if-not-contains.true) tree next)
