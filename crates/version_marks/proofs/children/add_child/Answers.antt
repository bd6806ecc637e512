use Rattle.std.proofs.Common.{◌≡◌, ◌||◌, ◌&&◌, ap, ◌∙◌, arith}
use Rattle.std.specs.BTreeMap.{is_at}
use Rattle.std.specs.HashMap.{get}
use Rattle.std.specs.HashMap.Entry.{map_with_value}
use Rattle.std.specs.List.{list_any}
use Rattle.std.specs.Option.{unwrap_or}
use Rattle.version_nodes.specs.Nodes.{same_node, node_cmp}
use Rattle.version_marks.specs.Children.{is_child}
use Rattle.version_marks.proofs.ChildLemmas.{found_or, added, same_set, on_err}
use Rattle.version_marks.proofs.children.add_child.Goals as goal

pub returns-clause-ok : goal.returns-clause-ok
returns-clause-ok c = λ p q.
    let old = c.args.children.now in
    let up = c.in_ok-copy-2.field-0 in
    let own = c.or_insert-own in
    let entry = c.in_ok-children in
    let new = map_with_value entry.field-0 c.insert.new.self in
    let more : is_child new p q ≡ ((same_node q c.in_ok-copy.copy && same_node p up) || is_child old p q) =
    added old new up own.result.now c.insert.new.self
    (found_or (get same_node old up) c.new.result own.result.now c.new.ensures.empty
    (own.ensures.value ∙ ap (λ o. unwrap_or o c.new.result) entry.ensures.value))
    (entry.ensures.update.0 c.insert.new.self).0 c.in_ok-copy.copy c.in_ok-insert.ensures.updates.0 p q in
    grind (arith, more, c.in_ok-copy.ensures.value, c.in_ok-copy-2.ensures.value)

pub returns-in_err-insert-clause-err : goal.returns-in_err-insert-clause-err
returns-in_err-insert-clause-err c = on_err c.from_residual-in_err-insert.result
    (λ p q.
    let old = c.args.children.now in
    let up = c.in_ok-copy-2.field-0 in
    let own = c.or_insert-own in
    let entry = c.in_ok-children in
    let new = map_with_value entry.field-0 c.insert.new.self in
    let same : is_child new p q ≡ is_child old p q =
    same_set old new up own.result.now c.insert.new.self
    (found_or (get same_node old up) c.new.result own.result.now c.new.ensures.empty
    (own.ensures.value ∙ ap (λ o. unwrap_or o c.new.result) entry.ensures.value))
    (entry.ensures.update.0 c.insert.new.self).0 (λ n. ap (list_any (is_at (node_cmp n))) c.in_err-insert.ensures.err) p q in
    grind (arith, same))
