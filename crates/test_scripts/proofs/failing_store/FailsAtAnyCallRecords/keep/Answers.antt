use Rattle.test_scripts.proofs.failing_store.FailsAtAnyCallRecords.keep.Goals as goal

-- an earlier moment of this store is one of the other store
pub returns-clause-answer : goal.returns-clause-answer
returns-clause-answer g c = λ earlier since.
    let answer = rw c.is_due.ensures.inner at c.keep.ensures.answer in
    let done = answer earlier.inner (record { honest = since.honest; kept = since.kept; fact = since.fact }) in
    record { honest = done.honest; kept = done.kept; fact = done.fact }

pub returns-clause-crash : goal.returns-clause-crash
returns-clause-crash g c = λ earlier since.
    let crash = rw c.is_due.ensures.inner at c.keep.ensures.crash in
    let left = crash earlier.inner (record { honest = since.honest; kept = since.kept; fact = since.fact }) in
    record { honest = left.honest; kept = left.kept; fact = left.fact }
