-- A name that a command gives twice.
use Rattle.std.specs.Prelude.{ℕ, ◌==◌, nat_lt, Bool, List, count_by}

-- whether the name -k stands more than once among these
abbrev pub stands_twice : List ℕ → ℕ → Bool
stands_twice ks k = nat_lt 1 (count_by (λ j. j == k) ks)
