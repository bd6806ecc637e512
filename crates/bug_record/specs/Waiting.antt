-- Bugs that wait on another.
-- This project's own rule.
use Rattle.std.specs.Prelude.{ℕ, List}
use Rattle.base_sequences.specs.Sets.{has}
use Rattle.bug_record.specs.Desk.{Desk}
use Rattle.bug_record.specs.Asked.{numbers_where}

-- the bugs that wait on the bug n, which is one of their blockers, ascending
abbrev pub waiting_on : Desk → ℕ → List ℕ
waiting_on d n = numbers_where (λ f. has f.blockers n) d
