use Rattle.std.proofs.Common.{◌≡◌, ℕ, true, false, List, [], ◌∷◌, ◌++◌, length, Result, codes}
use Rattle.std.specs.Bool.{◌==◌}
use Rattle.std.proofs.lemmas.Bool.{false≢true}
use Rattle.desk_text.specs.Texts.{numbers_text, changed_text}
use Rattle.desk_text.proofs.Appends.{AllAppended, Appended, alone, not_empty, same_front, stopped, then_appended}
use Rattle.desk_text.proofs.texts.append_changed.Goals as goal

none_changed : {T E : Type 0} (r : Result T E) (ns a b : List ℕ) → true ≡ (length ns == 0) → AllAppended r a (codes "OK, no change.") b → Appended r a (changed_text ns) b
none_changed r [] a b none h = alone r a (codes "OK, no change.") b h
none_changed r (n ∷ ns) a b none h = absurd (not_empty (length ns) none)

some_changed : {T E : Type 0} (r : Result T E) (ns a b : List ℕ) → false ≡ (length ns == 0) → Appended r a (codes "OK" ++ numbers_text ns) b → Appended r a (changed_text ns) b
some_changed r [] a b some h = absurd (false≢true some)
some_changed r (n ∷ ns) a b some h = h

pub returns-then-is_empty : goal.returns-then-is_empty
returns-then-is_empty c =
    none_changed c.append_text.result c.args.numbers.now c.args.out.now.items c.append_text.new.out.items
    c.if-is_empty.ensures c.append_text.ensures

pub returns-in_err-append_text : goal.returns-in_err-append_text
returns-in_err-append_text c =
    let a = c.args.out.now.items in
    stopped c.from_residual.result a (changed_text c.args.numbers.now) c.append_text-2.new.out.items
    c.from_residual.ensures.0 (same_front a _ c.in_err-append_text.ensures.err) c.append_text-2.ensures.utf8

pub returns : goal.returns
returns c =
    let a = c.args.out.now.items in
    let ns = c.args.numbers.now in
    some_changed c.append_numbers.result ns a c.append_numbers.new.out.items c.if-is_empty.ensures
    (then_appended c.append_numbers.result a (codes "OK") c.append_text-2.new.out.items (numbers_text ns)
    c.append_numbers.new.out.items c.in_ok-append_text.ensures.ok c.append_text-2.ensures.utf8 c.append_numbers.ensures)
