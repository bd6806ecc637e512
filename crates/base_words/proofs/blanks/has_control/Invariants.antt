use Rattle.std.proofs.Common.{◌≡◌, take}
use Rattle.std.specs.List.{list_any}
use Rattle.base_words.specs.Blanks.{is_control}
use Rattle.base_words.proofs.blanks.has_control.Given as goal

abbrev pub invariant-loop-byte : goal.invariant-loop-byte
invariant-loop-byte l = l.found ≡ list_any is_control (take l.byte-index l.byte-items)
