use Rattle.std.proofs.Common.{◌≡◌, drop}
use Rattle.std.specs.Str.{bytes_eq}
use Rattle.bug_record.specs.Images.{numbers_of}
use Rattle.bug_images.proofs.equal.same_numbers.Given as goal

abbrev pub invariant-loop-i : goal.invariant-loop-i
invariant-loop-i l = bytes_eq (numbers_of (drop l.i l.a)) (numbers_of (drop l.i l.b)) ≡ bytes_eq (numbers_of l.a) (numbers_of l.b)
