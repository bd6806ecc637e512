use Rattle.std.specs.Prelude.{⊤}
use Rattle.std.proofs.Common.{sym, ap, [], ◌∷◌}
use Rattle.std.proofs.lemmas.Result.{err_from_is_err_and}
use Rattle.store_contract.proofs.HoldsLemmas.{holds_weaker}
use Rattle.desk_run.specs.Script.{Message, end_of_script}
use Rattle.desk_run.proofs.RunLemmas.{one_ran, one_stops, runs_ends, if_begun}
use Rattle.desk_run.proofs.script.finish_script.Goals as goal

pub returns-in_err-finish_message-clause-answer : goal.returns-in_err-finish_message-clause-answer
returns-in_err-finish_message-clause-answer g c =
    let p = err_from_is_err_and c.from_residual.result c.from_residual.ensures.1 in
    let fault = c.in_err-finish_message.field-0.0 in
    rw (p.1, p.2) (holds_weaker c.in_err-finish_message.ensures.answer
    (λ s. one_stops (Message c.args.run.now.gathered.items) _ _ _ _ _ _ fault _ s (if_begun fault _ ⊤ tt)))

pub returns-then-run-clause-answer : goal.returns-then-run-clause-answer
returns-then-run-clause-answer g c =
    let n = g.S.Records.faults c.args.store.now in
    holds_weaker c.in_ok-finish_message.ensures.answer
    (λ p. runs_ends (Message c.args.run.now.gathered.items ∷ []) _ _ n n _ _ _ (sym (ap end_of_script c.if-run.true))
    (one_ran _ _ _ _ _ p))

pub returns-else-run-clause-answer : goal.returns-else-run-clause-answer
returns-else-run-clause-answer g c =
    let n = g.S.Records.faults c.args.store.now in
    holds_weaker c.in_ok-finish_message.ensures.answer
    (λ p. runs_ends (Message c.args.run.now.gathered.items ∷ []) _ _ n n _ _ _ (sym (ap end_of_script c.if-run.false))
    (one_ran _ _ _ _ _ p))
