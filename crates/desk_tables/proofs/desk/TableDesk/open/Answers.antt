use Rattle.desk_tables.proofs.Imports.{content_seen, remembered}
use Rattle.table_schema.proofs.Exports.{◌≡◌, Ok, Err, IfSome, refl, sym, ap, subst, ◌∙◌, state}
use Rattle.desk_tables.proofs.KeptLemmas.{content_is, noted_kept, none_known}
use Rattle.desk_tables.proofs.OpeningLemmas.{opened}
use Rattle.desk_tables.proofs.desk.TableDesk.open.Goals as goal

pub found-requires-clause-stays : goal.found-requires-clause-stays
found-requires-clause-stays g c = c.in-Ok.ensures.found.still

pub returns-in-Ok : goal.returns-in-Ok
returns-in-Ok g c =
    let d = c.found.result in
    let it = opened g.S.Store c.args.conn c.set_step_limit.new.self c.find_desk.new.conn d.conn c.set_step_limit.ensures c.found.ensures.conn (λ last. state g.S.Store last.value) (Ok c.in-Ok.last) c.in-Ok.ensures.found in
    let same = ap (content_seen g.S.Store) c.found.ensures.last ∙ content_is g.S.Store c.in-Ok.last.value in
    record {
      honest = it.found.honest;
      content = λ k clean holds. same ∙ (it.found.holds k clean (it.holds k holds)).0;
      kept = λ k clean holds good.
          let all = it.found.holds k clean (it.holds k holds) in
          noted_kept g.S.Store d.last.value c.in-Ok.last.value d.family (remembered d) k c.found.ensures.last (same ∙ all.0) all.1 good (subst (λ f. IfSome f (λ t. t ≡ k.nodes)) (sym c.found.ensures.family) tt) (none_known (remembered d) k c.found.ensures.known c.found.ensures.place c.found.ensures.next);
      says = it.found.says;
      serves = λ k content clean low shows. it.found.serves k content clean low (it.under k content shows);
      counts = c.found.ensures.counts;
      why = tt;
      desk = λ k holds. tt;
      left = λ k clean shows. it.left (it.found.stays k clean (it.shows k shows));
      other = λ other. let both = it.found.other other in (it.left both.0, both.1);
      crash = λ k content shows. it.found.crash k content (λ clean. it.under k content (shows clean));
    }

pub returns-in-Err : goal.returns-in-Err
returns-in-Err g c =
    let it = opened g.S.Store c.args.conn c.set_step_limit.new.self c.find_desk.new.conn c.find_desk.new.conn c.set_step_limit.ensures refl (λ last. state g.S.Store last.value) (Err c.in-Err.fault) c.in-Err.ensures.found in
    record {
      honest = tt;
      content = tt;
      kept = tt;
      says = tt;
      serves = tt;
      counts = tt;
      why = it.reason c.in-Err.fault it.found.why;
      desk = λ k holds clean. it.found.desk k clean (it.holds k holds);
      left = it.left it.found.err;
      other = λ other. (it.found.other other).1;
      crash = λ k content shows. it.found.crash k content (λ clean. it.under k content (shows clean));
    }
