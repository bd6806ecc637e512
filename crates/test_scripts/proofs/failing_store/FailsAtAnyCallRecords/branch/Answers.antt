use Rattle.store_contract.proofs.CrashLemmas.{failed_none}
use Rattle.test_scripts.proofs.failing_store.FailsAtAnyCallRecords.branch.Goals as goal

-- a call that fails leaves the other store as it was
pub returns-then-is_due-clause-crash : goal.returns-then-is_due-clause-crash
returns-then-is_due-clause-crash g c =
    let left = failed_none g.S.Records.is_kept g.S.Records.is_honest g.S.Records.leaves g.met.S.Records.either c.args.self.now.inner
    c.is_due.new.self.inner _ c.is_due.ensures.inner in
    record { honest = left.honest; kept = left.kept; fact = left.fact }
