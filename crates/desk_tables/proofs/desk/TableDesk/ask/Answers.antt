use Rattle.desk_tables.proofs.Imports.{remembered}
use Rattle.table_schema.proofs.Exports.{refl}
use Rattle.table_opening.proofs.StillLemmas.{still_then}
use Rattle.desk_tables.proofs.CrashLemmas.{left_as_before}
use Rattle.desk_tables.proofs.KeptLemmas.{noted}
use Rattle.desk_tables.proofs.desk.TableDesk.ask.Goals as goal

pub invariant_of-self-clause-stays : goal.invariant_of-self-clause-stays
invariant_of-self-clause-stays g c = still_then _ _ _ c.args.self.now.stays c.ask_within.ensures.asked.stays

pub returns : goal.returns
returns g c =
    let d = c.args.self.now in
    let asked = c.ask_within.ensures.asked in
    let it = noted g.S.Store d.last.value d.conn c.ask_within.new.conn d.family (remembered d) c.ask_within.result _ _ asked d.stays c.requires.fits in
    record {
      answer = record { holds = record { honest = it.honest; kept = λ was clean. was; fact = it.fact }; was_kept = λ now clean. now; left = left_as_before _ _ asked.survives };
      cause = it.cause;
      last = refl;
      family = refl;
      known = refl;
      next = refl;
      survives = asked.survives;
      counts = refl;
    }
