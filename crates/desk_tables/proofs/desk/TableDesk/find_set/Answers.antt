use Rattle.desk_tables.proofs.Imports.{content_seen, state_of}
use Rattle.table_schema.proofs.Exports.{refl}
use Rattle.table_reads.specs.Known.{known_key, known_set}
use Rattle.desk_tables.proofs.BranchLemmas.{survives_same}
use Rattle.desk_tables.proofs.KeptLemmas.{known_image}
use Rattle.desk_tables.proofs.desk.TableDesk.find_set.Goals as goal

pub returns-in-Some : goal.returns-in-Some
returns-in-Some g c =
    let d = c.args.self.now in
    record {
      answer = record {
        holds = record {
          honest = λ clean. clean;
          kept = λ was clean. was;
          fact = λ was clean. (known_image (known_key d.known) (known_set d.known) d.known.bugs.keyed (content_seen g.S.Store d.last.value) was.content was.known.sets c.args.number c.in-Some.image c.in-Some.ensures, refl);
        };
        was_kept = λ now clean. now;
        left = λ clean a b left. left;
      };
      cause = λ was clean. tt;
      last = refl;
      survives = survives_same (state_of d);
      counts = refl;
    }
