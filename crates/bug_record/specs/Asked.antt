-- The bugs of a desk that pass a test of their shared fields.
use Rattle.std.specs.Prelude.{ℕ, Bool, false, List, filter, Option, Some, None}
use Rattle.bug_record.specs.Desk.{Desk}
use Rattle.base_sequences.specs.Sets.{numbers_below}
use Rattle.bug_record.specs.declared.bug.Bug.{Bug}
use Rattle.bug_record.specs.declared.bug.Shared.{Shared}

-- whether there is a bug, whose shared fields pass the test
abbrev pub passes : (Shared → Bool) → Option Bug → Bool
passes test None = false
passes test (Some b) = test b.shared

-- the numbers of the bugs that pass, ascending
abbrev pub numbers_where : (Shared → Bool) → Desk → List ℕ
numbers_where test d = filter (λ n. passes test (d.bug n)) (numbers_below d.next)
