use Rattle.std.proofs.Common.{◌≡◌, ℕ, cond, drop, Some, None}
use Rattle.std.specs.Option.{option_or}
use Rattle.std.specs.Ordering.{nat_cmp}
use Rattle.std.specs.BTreeMap.{get}
use Rattle.bug_record.specs.Sets.{has}
use Rattle.table_nodes.specs.FirstMarks.{mark}
use Rattle.table_nodes.proofs.first_marks.add_kind.Given as goal

-- with those that are left the map is the whole one
abbrev pub invariant-loop-key : goal.invariant-loop-key
invariant-loop-key l =
    (k : ℕ) → option_or (get nat_cmp l.first k) (cond (has (drop l.key-index l.keys) k) (Some (mark l.node l.kind)) None)
    ≡ option_or (get nat_cmp l.fn.first k) (cond (has l.keys k) (Some (mark l.node l.kind)) None)
