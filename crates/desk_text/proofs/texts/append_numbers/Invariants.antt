use Rattle.std.proofs.Common.{◌≡◌, ◌++◌, length}
use Rattle.std.specs.Prelude.{IsUtf8}
use Rattle.std.specs.Io.{StartsWith}
use Rattle.desk_text.specs.Texts.{numbers_text}
use Rattle.desk_text.proofs.texts.append_numbers.Given as goal

abbrev pub invariant-loop-rest : goal.invariant-loop-rest
invariant-loop-rest l = record {
  text : l.out.items ++ numbers_text l.rest ≡ l.fn.out.items ++ numbers_text l.numbers;
  front : StartsWith l.out.items l.fn.out.items;
  utf8 : IsUtf8 l.fn.out.items → IsUtf8 l.out.items;
}

abbrev pub decreases-loop-rest : goal.decreases-loop-rest
decreases-loop-rest l = length l.rest
