use Rattle.desk_tables.proofs.Imports.{IsNextIn, content_seen}
use Rattle.table_schema.proofs.Exports.{◌≡◌, sym, subst, ◌∙◌}
use Rattle.desk_tables.proofs.desk.TableDesk.read_next.Goals as goal

pub returns-clause-answer : goal.returns-clause-answer
returns-clause-answer g c =
    let did = c.in_ok-next.ensures in
    let mid = c.ask.new.self in
    record {
      holds = record {
        honest = did.answer.holds.honest;
        kept = λ was clean.
            let now = did.answer.holds.kept was clean in
            record {
              shown = now.shown;
              content = now.content;
              tree = now.tree;
              known = record {
                sets = now.known.sets;
                place = now.known.place;
                next = subst (λ h. c.in_ok-next.next ≡ (content_seen g.S.Store h).next) (sym did.last) (did.answer.holds.fact was clean).0;
              };
            };
        fact = did.answer.holds.fact;
      };
      was_kept = λ now clean. did.answer.was_kept (record {
        shown = now.shown;
        content = now.content;
        tree = now.tree;
        known = record {
          sets = now.known.sets;
          place = now.known.place;
          next = subst (λ n. IsNextIn n (content_seen g.S.Store mid.last.value)) (sym (did.next ∙ c.requires.unknown)) tt;
        };
      }) clean;
      left = did.answer.left;
    }
