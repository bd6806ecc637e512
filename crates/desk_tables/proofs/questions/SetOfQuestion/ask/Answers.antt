use Rattle.table_schema.proofs.Exports.{◌≤◌, ◌^◌, subst, arith, None, IsKeptContent}
use Rattle.table_reads.specs.FoundSets.{IsSetFound}
use Rattle.table_reads.proofs.KeyLemmas.{no_bug}
use Rattle.desk_tables.proofs.TransactionLemmas.{asks_read, asks_known}
use Rattle.desk_tables.proofs.questions.SetOfQuestion.ask.Goals as goal

pub returns-in-Ok-clause-asks : goal.returns-in-Ok-clause-asks
returns-in-Ok-clause-asks g c =
    asks_read c.read_set_of.result _ _ _ _ _ _ (λ k fits. fits) (λ k found p fits. subst (λ n. IsSetFound k n found) c.in-Ok.ensures.1 (p fits))
    c.read_set_of.ensures.reads c.read_set_of.ensures.serves

pub returns-in-Err-clause-asks : goal.returns-in-Err-clause-asks
returns-in-Err-clause-asks g c =
    let n = c.args.self.now.number in
    let large : 2 ^ 32 ≤ n = omega (arith, c.in-Err.ensures) in
    asks_known _ None IsKeptContent (λ k found. IsSetFound k n found) (λ k kept. no_bug k kept n large)
