use Rattle.store_contract.proofs.CrashLemmas.{failed_none}
use Rattle.store_failing.proofs.fail_at.FailAtRecords.apply.Goals as goal

pub returns-then-is_due-clause-crash : goal.returns-then-is_due-clause-crash
returns-then-is_due-clause-crash g c = failed_none _ _ _ g.met.S.Records.either _ _ _ c.is_due.ensures.inner
