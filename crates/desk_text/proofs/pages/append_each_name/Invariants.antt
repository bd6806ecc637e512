use Rattle.std.proofs.Common.{◌≡◌, ◌++◌, ◌∷◌, drop, flat_map}
use Rattle.desk_text.proofs.pages.append_each_name.Given as goal

abbrev pub invariant-loop-name : goal.invariant-loop-name
invariant-loop-name l =
    l.out.items ++ flat_map (λ name. 32 ∷ name) (drop l.name-index l.names)
    ≡ l.fn.out.items ++ flat_map (λ name. 32 ∷ name) l.names
