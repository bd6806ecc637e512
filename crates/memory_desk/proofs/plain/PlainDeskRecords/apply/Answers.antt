use Rattle.std.proofs.Common.{Some}
use Rattle.memory_desk.proofs.PlainLemmas.{made-sound}
use Rattle.memory_desk.proofs.plain.PlainDeskRecords.apply.Goals as goal

pub invariant_of-self : goal.invariant_of-self
invariant_of-self c =
    let old = c.args.self.now in
    record {
      sound = made-sound c.make.result old.bugs c.make.new.bugs old.tree old.next c.make.new.next (Some c.args.change.now) old.sound
          c.requires.fits c.make.ensures.ok c.make.ensures.bugs c.make.ensures.next;
      good = old.good;
    }

pub returns-clause-done : goal.returns-clause-done
returns-clause-done c = c.in_ok-make.ensures.ok c.args.self.now.tree
