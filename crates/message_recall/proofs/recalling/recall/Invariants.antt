use Rattle.std.proofs.Common.{◌≡◌, ◌≤◌, length, take}
use Rattle.store_contract.specs.Message.{end_of, unreadable_count, known_names}
use Rattle.store_contract.specs.Kept.{lines_told, told}
use Rattle.message_recall.proofs.recalling.recall.Given as goal

abbrev pub invariant-loop-i : goal.invariant-loop-i
invariant-loop-i l = record {
  outcomes : l.progress.outcomes.items ≡ told (take l.i l.lines) l.kept;
  few : length (lines_told (take l.i l.lines)) ≤ length l.kept;
  counted : l.progress.unreadable ≡ unreadable_count l.progress.outcomes.items;
  known : l.progress.known.names ≡ known_names l.progress.outcomes.items;
  ends : end_of l.progress.outcomes.items ≡ l.end;
}
