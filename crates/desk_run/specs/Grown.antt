-- What a machine makes of lines that have an outcome.
use Rattle.std.specs.Prelude.{ℕ, ◌≡◌, List, ◌++◌, length, map, take}
use Rattle.base_faults.specs.declared.store_fault.End.TheVariants as ends
use Rattle.store_contract.specs.Message.{Entry, Machine, after_lines, end_of}

-- From one machine to another in these lines: of some of the first ones an outcome is added, and
-- these lead to the same machine; of all of them, where the message is not at its end.
pub record Grown (sender : List ℕ) (m : Machine) (lines : List (List ℕ)) (last : Machine) : Type 0 where
  pub taken : List Entry
  pub outcomes : last.outcomes ≡ m.outcomes ++ taken
  pub next : map (λ entry. entry.0) taken ≡ take (length taken) lines
  pub after : after_lines sender m (map (λ entry. entry.0) taken) ≡ last
  pub whole : end_of last.outcomes ≡ ends.All → map (λ entry. entry.0) taken ≡ lines
