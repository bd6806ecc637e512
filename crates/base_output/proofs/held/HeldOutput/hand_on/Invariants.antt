use Rattle.std.proofs.Common.{◌-◌, length, drop}
use Rattle.std.specs.Io.KnownBytes.{Keeps, append_known}
use Rattle.base_output.proofs.held.HeldOutput.hand_on.Given as goal

abbrev pub invariant-loop-self : goal.invariant-loop-self
invariant-loop-self g l = record {
  kept : Keeps (append_known (g.W.Write.contents l.fn.self.inner) (drop l.fn.self.start l.fn.self.bytes.items))
      (append_known (g.W.Write.contents l.self.inner) (drop l.self.start l.self.bytes.items));
}

abbrev pub decreases-loop-self : goal.decreases-loop-self
decreases-loop-self g l = length l.self.bytes.items - l.self.start
