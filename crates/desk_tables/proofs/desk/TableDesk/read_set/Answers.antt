use Rattle.desk_tables.proofs.Imports.{content_seen}
use Rattle.table_schema.proofs.Exports.{◌≡◌, Some, sym, subst}
use Rattle.table_content.specs.View.{image}
use Rattle.table_reads.specs.Known.{known_set}
use Rattle.desk_tables.proofs.KeptLemmas.{known_learnt, known_less}
use Rattle.desk_tables.proofs.desk.TableDesk.read_set.Goals as goal

pub returns-in-Some : goal.returns-in-Some
returns-in-Some g c =
    let did = c.in_ok-found.ensures in
    let mid = c.ask.new.self in
    let found = c.in-Some.found in
    record {
      answer = record {
        holds = record {
          honest = did.answer.holds.honest;
          kept = λ was clean.
              let now = did.answer.holds.kept was clean in
              let said = rw c.in-Some.is at (did.answer.holds.fact was clean) in
              record {
                shown = now.shown;
                content = now.content;
                tree = now.tree;
                known = record {
                  sets = known_learnt (known_set mid.known) (known_set c.learn.new.self) (content_seen g.S.Store mid.last.value) found
                      (subst (λ h. image (content_seen g.S.Store h) found.key ≡ Some found.image) (sym did.last) said.0.1) now.known.sets c.learn.ensures.learns;
                  place = now.known.place;
                  next = now.known.next;
                };
              };
          fact = λ was clean. let said = rw c.in-Some.is at (did.answer.holds.fact was clean) in (said.0.0, said.1);
        };
        was_kept = λ now clean. did.answer.was_kept (record {
          shown = now.shown;
          content = now.content;
          tree = now.tree;
          known = record {
            sets = known_less (known_set mid.known) (known_set c.learn.new.self) (content_seen g.S.Store mid.last.value) c.learn.ensures.keeps now.known.sets;
            place = now.known.place;
            next = now.known.next;
          };
        }) clean;
        left = did.answer.left;
      };
      cause = λ was clean. tt;
      last = did.last;
      survives = did.survives;
      counts = did.counts;
    }

pub returns-in-None : goal.returns-in-None
returns-in-None g c =
    let did = c.in_ok-found.ensures in
    record {
      answer = record {
        holds = record { honest = did.answer.holds.honest; kept = did.answer.holds.kept; fact = λ was clean. rw c.in-None.is at (did.answer.holds.fact was clean) };
        was_kept = did.answer.was_kept;
        left = did.answer.left;
      };
      cause = λ was clean. tt;
      last = did.last;
      survives = did.survives;
      counts = did.counts;
    }
