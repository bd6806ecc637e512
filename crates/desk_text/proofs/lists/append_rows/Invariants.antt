use Rattle.std.proofs.Common.{◌≡◌, ◌++◌, drop, flat_map}
use Rattle.std.specs.Io.{StartsWith}
use Rattle.desk_text.specs.Lists.{row_text}
use Rattle.desk_text.proofs.lists.append_rows.Given as goal

abbrev pub invariant-loop-row : goal.invariant-loop-row
invariant-loop-row l = record {
  text : l.out.items ++ flat_map row_text (drop l.row-index l.rows) ≡ l.fn.out.items ++ flat_map row_text l.rows;
  front : StartsWith l.out.items l.fn.out.items;
}
