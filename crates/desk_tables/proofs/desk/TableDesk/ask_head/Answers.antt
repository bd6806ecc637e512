use Rattle.desk_tables.proofs.Imports.{content_seen, remembered}
use Rattle.table_schema.proofs.Exports.{◌≡◌, IfSome, refl, subst}
use Rattle.table_opening.proofs.StillLemmas.{still_then}
use Rattle.desk_tables.proofs.CrashLemmas.{left_as_before}
use Rattle.desk_tables.proofs.KeptLemmas.{noted, is_asked}
use Rattle.desk_tables.proofs.desk.TableDesk.ask_head.Goals as goal

pub invariant_of-self-clause-stays : goal.invariant_of-self-clause-stays
invariant_of-self-clause-stays g c = still_then _ _ _ c.args.self.now.stays c.ask_within.ensures.asked.stays

pub returns-in-Some : goal.returns-in-Some
returns-in-Some g c =
    let d = c.args.self.now in
    let content = content_seen g.S.Store d.last.value in
    let asked = c.ask_within.ensures.asked in
    let it = noted g.S.Store d.last.value d.conn c.ask_within.new.conn d.family (remembered d) c.ask_within.result _ _ asked d.stays
    (λ was clean. is_asked c.in-Some.family c.args.image.now content was.content c.requires.member (c.requires.set was clean) (subst (λ f. IfSome f (λ t. t ≡ content.nodes)) c.in-Some.is was.tree)) in
    record {
      answer = record { holds = record { honest = it.honest; kept = λ was clean. was; fact = it.fact }; was_kept = λ now clean. now; left = left_as_before _ _ asked.survives };
      cause = it.cause;
      last = refl;
      survives = asked.survives;
      counts = refl;
    }
