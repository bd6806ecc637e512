use Rattle.std.proofs.Common.{◌≡◌, ◌++◌, List, [], sym, ap, ◌∙◌, flat_map}
use Rattle.std.specs.HashMap.{values}
use Rattle.std.specs.Map.Iter.{deref}
use Rattle.std.proofs.lemmas.List.{append-nil}
use Rattle.std.proofs.lemmas.Map.Iter.{rest_more, rest_all}
use Rattle.store_sets.specs.declared.places.Place.{Place}
use Rattle.store_sets.specs.Passing.{test_of, rows_there}
use Rattle.store_sets.proofs.PassingLemmas.{place-more}
use Rattle.store_sets.proofs.RowLemmas.{rows-passing}
use Rattle.store_sets.proofs.bug_sets.BugSets.rows_passing.Goals as goal

pub loop-place-preserved : goal.loop-place-preserved
loop-place-preserved c =
    let left = c.loop-place.place-iterator in
    let rest = c.next.new.self in
    place-more (rows_there (test_of c.args.question)) left rest c.in-Some.place.now c.loop-place.rows.items c.add_rows.new.rows.items
    (rest_more deref left rest c.next.result c.in-Some.place c.in-Some.is c.next.ensures.steps) c.in_ok-add_rows.ensures
    ∙ c.loop-place.invariant

pub returns : goal.returns
returns c = λ tree next sound.
    let bugs = c.args.self.now.places in
    let test = test_of c.args.question in
    let none : c.loop-place.place-iterator ≡ [] =
    rest_all deref c.loop-place.place-iterator c.next.new.self c.next.result c.in-None.is c.next.ensures.steps in
    let all : c.loop-place.rows.items ≡ flat_map (rows_there test) (values bugs) =
    sym (append-nil c.loop-place.rows.items)
    ∙ ap (λ (ps : List Place). c.loop-place.rows.items ++ flat_map (rows_there test) ps) (sym none)
    ∙ c.loop-place.invariant in
    rows-passing bugs c.values-place-items.ensures.unique c.args.self.now.keyed test tree next sound c.loop-place.rows.items
    c.in_number_order.result.items all c.in_number_order.ensures.ascending c.in_number_order.ensures.numbers
    c.in_number_order.ensures.rows
