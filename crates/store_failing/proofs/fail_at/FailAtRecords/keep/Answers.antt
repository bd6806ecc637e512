use Rattle.store_contract.proofs.CrashLemmas.{failed_since}
use Rattle.store_failing.proofs.fail_at.FailAtRecords.keep.Goals as goal

pub returns-in-true-clause-crash : goal.returns-in-true-clause-crash
returns-in-true-clause-crash g c = λ earlier since.
    failed_since _ _ _ g.met.S.Records.either earlier _ _ _ c.is_due.ensures.inner since
