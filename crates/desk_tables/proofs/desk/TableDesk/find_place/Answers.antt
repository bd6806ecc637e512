use Rattle.desk_tables.proofs.Imports.{IsPlaceIn, content_seen, state_of}
use Rattle.table_schema.proofs.Exports.{refl, subst}
use Rattle.desk_tables.proofs.BranchLemmas.{survives_same}
use Rattle.desk_tables.proofs.desk.TableDesk.find_place.Goals as goal

pub returns-in-Some : goal.returns-in-Some
returns-in-Some g c =
    let d = c.args.self.now in
    record {
      answer = record {
        holds = record {
          honest = λ clean. clean;
          kept = λ was clean. was;
          fact = λ was clean. (subst (λ k. IsPlaceIn k (content_seen g.S.Store d.last.value)) c.in-Some.ensures was.known.place, refl);
        };
        was_kept = λ now clean. now;
        left = λ clean a b left. left;
      };
      cause = λ was clean. tt;
      last = refl;
      survives = survives_same (state_of d);
      counts = refl;
    }
