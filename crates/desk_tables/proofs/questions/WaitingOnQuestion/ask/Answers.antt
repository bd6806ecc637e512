use Rattle.desk_tables.proofs.Imports.{AreWaitingOn}
use Rattle.table_schema.proofs.Exports.{◌≤◌, ◌^◌, ◌∙◌, subst, arith, IsKeptContent, desk_in}
use Rattle.table_reads.proofs.WaitingLemmas.{none_waits}
use Rattle.desk_tables.proofs.TransactionLemmas.{asks_read, asks_known}
use Rattle.desk_tables.proofs.questions.WaitingOnQuestion.ask.Goals as goal

pub returns-in-Ok-clause-asks : goal.returns-in-Ok-clause-asks
returns-in-Ok-clause-asks g c =
    asks_read c.read_waiting_on.result _ _ _ _ _ _ (λ k fits. fits) (λ k numbers p fits. subst (λ n. AreWaitingOn (desk_in k) n numbers) c.in-Ok.ensures.1 (p fits))
    c.read_waiting_on.ensures.reads c.read_waiting_on.ensures.serves

pub returns-in-Err-clause-asks : goal.returns-in-Err-clause-asks
returns-in-Err-clause-asks g c =
    let n = c.args.self.now.number in
    let large : 2 ^ 32 ≤ n = omega (arith, c.in-Err.ensures) in
    asks_known _ c.new.result IsKeptContent (λ k numbers. AreWaitingOn (desk_in k) n numbers) (λ k kept. c.new.ensures ∙ none_waits k kept n large)
