use Rattle.desk_tables.proofs.records.TableDeskRecords.keep.Goals as goal

-- what the call says where the outcome may be kept as it begins, it says since the moment since
-- which that is known
pub returns-clause-answer : goal.returns-clause-answer
returns-clause-answer g c = λ earlier known.
    let did = c.load_and_keep-done.ensures in
    rw c.note.ensures.same (record {
      honest = λ clean. known.honest (did.honest clean);
      kept = λ was clean. (did.answer (known.fact was (did.honest clean))).kept (known.kept was (did.honest clean)) clean;
      fact = λ was clean. (did.answer (known.fact was (did.honest clean))).fact (known.kept was (did.honest clean)) clean;
    })
