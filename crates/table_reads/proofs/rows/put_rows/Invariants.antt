use Rattle.std.proofs.Common.{◌≡◌, ℕ, drop}
use Rattle.std.specs.BTreeMap.{get}
use Rattle.std.specs.Option.{option_or}
use Rattle.std.specs.Ordering.{nat_cmp}
use Rattle.table_reads.specs.Rows.{row_among}
use Rattle.table_reads.proofs.rows.put_rows.Given as goal

-- with the rows that are to come the map is the whole one
abbrev pub invariant-loop-member : goal.invariant-loop-member
invariant-loop-member l =
    (n : ℕ) → option_or (row_among l.fields (drop l.member-index l.members) n) (get nat_cmp l.rows n)
    ≡ option_or (row_among l.fields l.members n) (get nat_cmp l.fn.rows n)
