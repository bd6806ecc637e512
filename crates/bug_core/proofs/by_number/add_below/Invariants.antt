use Rattle.std.proofs.Common.{◌≡◌, ◌++◌, drop}
use Rattle.bug_core.specs.Merged.{front_below, rest_from}
use Rattle.bug_core.proofs.by_number.add_below.Given as goal

abbrev pub invariant-loop-i : goal.invariant-loop-i
invariant-loop-i l = record {
  added : l.merged ++ front_below l.number (drop l.i l.members) ≡ l.fn.merged ++ front_below l.number l.members;
  rest : rest_from l.number (drop l.i l.members) ≡ rest_from l.number l.members;
}
