use Rattle.base_output.proofs.HeldLemmas.{more_handed_on}
use Rattle.base_output.proofs.held.HeldOutput.hand_on.Goals as goal

pub loop-self-preserved : goal.loop-self-preserved
loop-self-preserved g c = record {
  kept = more_handed_on _ (g.W.Write.contents c.loop-self.self.inner) (g.W.Write.contents c.write.new.self)
      c.loop-self.self.bytes.items c.deref.result.now c.loop-self.self.start c.in_ok-count.count c.deref.ensures.0
      c.loop-self.invariant.kept c.in_ok-count.ensures.bytes;
}
