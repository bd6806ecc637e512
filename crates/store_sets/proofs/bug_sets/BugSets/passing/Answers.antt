use Rattle.std.proofs.Common.{◌≡◌, ◌++◌, List, [], ℕ, sym, ap, ◌∙◌}
use Rattle.std.specs.HashMap.{values}
use Rattle.std.specs.Map.Iter.{deref}
use Rattle.std.proofs.lemmas.List.{append-nil}
use Rattle.std.proofs.lemmas.Map.Iter.{rest_more, rest_all}
use Rattle.bug_record.specs.Sets.{has}
use Rattle.store_sets.specs.declared.places.Place.{Place}
use Rattle.store_sets.specs.Passing.{test_of, passing_there}
use Rattle.store_sets.proofs.PassingLemmas.{passing_in, place-more, passing-is}
use Rattle.store_sets.proofs.bug_sets.BugSets.passing.Goals as goal

pub loop-place-preserved : goal.loop-place-preserved
loop-place-preserved c =
    let left = c.loop-place.place-iterator in
    let rest = c.next.new.self in
    place-more (passing_there (test_of c.args.question)) left rest c.in-Some.place.now c.loop-place.numbers.items c.add_passing.new.numbers.items
    (rest_more deref left rest c.next.result c.in-Some.place c.in-Some.is c.next.ensures.steps) c.in_ok-add_passing.ensures
    ∙ c.loop-place.invariant

pub returns : goal.returns
returns c = λ tree next sound.
    let bugs = c.args.self.now.places in
    let test = test_of c.args.question in
    let none : c.loop-place.place-iterator ≡ [] =
    rest_all deref c.loop-place.place-iterator c.next.new.self c.next.result c.in-None.is c.next.ensures.steps in
    let all : c.loop-place.numbers.items ≡ passing_in test (values bugs) =
    sym (append-nil c.loop-place.numbers.items)
    ∙ ap (λ (ps : List Place). c.loop-place.numbers.items ++ passing_in test ps) (sym none)
    ∙ c.loop-place.invariant in
    c.from_vec.ensures
    ∙ passing-is bugs c.values-place-items.ensures.unique c.args.self.now.keyed test tree next sound c.in_order.result.items
    c.in_order.ensures.ascending (λ m. c.in_order.ensures.numbers m ∙ ap (λ (ns : List ℕ). has ns m) all)
