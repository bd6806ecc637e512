use Rattle.desk_tables.proofs.Imports.{content_seen}
use Rattle.table_schema.proofs.Exports.{◌≡◌, sym, subst, ◌∙◌}
use Rattle.desk_tables.proofs.KeptLemmas.{no_tree}
use Rattle.desk_tables.proofs.desk.TableDesk.load.Goals as goal

pub returns-in_err-family-clause-answer : goal.returns-in_err-family-clause-answer
returns-in_err-family-clause-answer g c =
    let did = c.in_err-family.ensures in
    record { holds = record { honest = did.answer.holds.honest; kept = did.answer.holds.kept; fact = λ was clean. did.last }; was_kept = did.answer.was_kept; left = did.answer.left }

pub returns-clause-answer : goal.returns-clause-answer
returns-clause-answer g c =
    let did = c.in_ok-family.ensures in
    record {
      holds = record {
        honest = did.answer.holds.honest;
        kept = λ was clean.
            let now = did.answer.holds.kept was clean in
            record { shown = now.shown; content = now.content; tree = subst (λ h. c.in_ok-family.family ≡ (content_seen g.S.Store h).nodes) (sym did.last) (did.answer.holds.fact was clean).0; known = now.known };
        fact = λ was clean. did.last;
      };
      was_kept = λ now clean.
          did.answer.was_kept (record { shown = now.shown; content = now.content; tree = rw did.family (no_tree c.args.self.now.family _ (sym c.is_some.ensures ∙ c.if-is_some.false)); known = now.known }) clean;
      left = did.answer.left;
    }
