-- Sets as lists in an order of their items, each of which stands once.
use Rattle.std.specs.Prelude.{List, [], ◌∷◌}
use Rattle.std.specs.BTreeSet.{insert_key}
use Rattle.std.specs.declared.cmp.Ordering.{Ordering}

-- the items of a list, each once, in the order
abbrev pub ordered_set : {T : Type 0} → (T → T → Ordering) → List T → List T
ordered_set cmp [] = []
ordered_set cmp (x ∷ xs) = insert_key cmp (ordered_set cmp xs) x

-- an ordered list with all items of a list, each in its place, unless an equal one is there
abbrev pub with_each : {T : Type 0} → (T → T → Ordering) → List T → List T → List T
with_each cmp set [] = set
with_each cmp set (x ∷ xs) = with_each cmp (insert_key cmp set x) xs
