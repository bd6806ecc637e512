use Rattle.std.proofs.Common.{◌≡◌, drop}
use Rattle.std.specs.List.{find}
use Rattle.bug_record.specs.Sets.{has}
use Rattle.bug_images.proofs.refusals.first_in.Given as goal

abbrev pub invariant-loop-blocker : goal.invariant-loop-blocker
invariant-loop-blocker l = find (has l.set.keys) (drop l.blocker-index l.numbers) ≡ find (has l.set.keys) l.numbers
