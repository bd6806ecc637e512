use Rattle.std.proofs.Common.{◌≡◌, ℕ, List, [], ◌∷◌, sym, ◌∙◌, ap, refl, true, false, Err}
use Rattle.std.proofs.lemmas.Result.{err_from_is_err_and}
use Rattle.store_contract.proofs.HoldsLemmas.{holds_weaker, holds_none, holds_then}
use Rattle.desk_run.specs.Script.{Message, DirectiveLine, is_directive, standing}
use Rattle.desk_run.specs.Gathering.{parts_from}
use Rattle.desk_run.proofs.RunLemmas.{stops_at_message, stops_at_order, parts_directive, parts_gathered, one_ran, runs_then}
use Rattle.desk_run.proofs.RunLemmas.{runs_none, gathered_stops}
use Rattle.store_contract.proofs.TriedLemmas.{holds_three}
use Rattle.desk_run.proofs.TriedLemmas.{failed_at_message, failed_at_directive, parts_settled}
use Rattle.desk_run.proofs.script.take_line.Goals as goal

pub returns-in_err-finish_message-clause-err : goal.returns-in_err-finish_message-clause-err
returns-in_err-finish_message-clause-err g c =
    let p = err_from_is_err_and c.from_residual.result c.from_residual.ensures.1 in
    let e : is_directive c.args.line ≡ true =
    sym (c.is_directive.ensures ∙ ap is_directive c.as_str.ensures) ∙ c.if-is_directive.true in
    rw (p.1, p.2) (holds_weaker c.in_err-finish_message.ensures.answer
    (λ s lines. stops_at_message c.args.run.now.gathered.items c.args.line lines _ _ _ _ _ _ _ e s))

pub returns-in_ok-carry_out-clause-ok : goal.returns-in_ok-carry_out-clause-ok
returns-in_ok-carry_out-clause-ok g c =
    let e : is_directive c.args.line ≡ true =
    sym (c.is_directive.ensures ∙ ap is_directive c.as_str.ensures) ∙ c.if-is_directive.true in
    let none : c.carry_out.new.run.gathered.items ≡ [] = c.in_ok-carry_out.ensures.gathered ∙ c.in_ok-finish_message.ensures.cleared in (
      Message c.args.run.now.gathered.items ∷ DirectiveLine c.args.line ∷ [],
      λ lines. parts_directive c.args.run.now.gathered.items c.args.line lines e
          ∙ ap (λ (h : List (List ℕ)). Message c.args.run.now.gathered.items ∷ DirectiveLine c.args.line ∷ parts_from h lines)
          (sym none),
      holds_then c.in_ok-finish_message.ensures.answer (rw c.as_str-then-is_directive.ensures at c.in_ok-carry_out.ensures.answer)
          (λ p q. runs_then (Message c.args.run.now.gathered.items ∷ []) (DirectiveLine c.args.line ∷ []) _ _ _ _ _ _
          (one_ran _ _ _ _ _ p) (one_ran _ _ _ _ _ q)),
    )

pub returns-in_err-carry_out-clause-err : goal.returns-in_err-carry_out-clause-err
returns-in_err-carry_out-clause-err g c =
    let p = err_from_is_err_and c.from_residual-in_err-carry_out.result c.from_residual-in_err-carry_out.ensures.1 in
    let e : is_directive c.args.line ≡ true =
    sym (c.is_directive.ensures ∙ ap is_directive c.as_str.ensures) ∙ c.if-is_directive.true in
    rw (p.1, p.2) (holds_then c.in_ok-finish_message.ensures.answer
    (rw c.as_str-then-is_directive.ensures at c.in_err-carry_out.ensures.answer)
    (λ q s lines. stops_at_order c.args.run.now.gathered.items c.args.line lines _ _ _ _ _ _ _ _ _ _ e
    c.in_ok-finish_message.ensures.count q s))

pub returns-in_ok-push-clause-ok : goal.returns-in_ok-push-clause-ok
returns-in_ok-push-clause-ok g c =
    let e : is_directive c.args.line ≡ false =
    sym (c.is_directive.ensures ∙ ap is_directive c.as_str.ensures) ∙ c.if-is_directive.false in (
      [],
      λ lines. parts_gathered c.args.run.now.gathered.items c.args.line lines e
          ∙ ap (λ (h : List (List ℕ)). parts_from h lines) (sym c.in_ok-push.ensures.items),
      holds_none _ _ _ (runs_none _ _),
    )

pub returns-in_err-push-clause-err : goal.returns-in_err-push-clause-err
returns-in_err-push-clause-err g c =
    let p = err_from_is_err_and c.from_residual-in_err-push.result c.from_residual-in_err-push.ensures.1 in
    rw (p.1, p.2)
    (holds_none _ _ _ (λ lines. gathered_stops c.args.run.now.gathered.items (c.args.line ∷ lines) _ _ _ _ _ refl))

pub returns-in_err-finish_message-clause-crash : goal.returns-in_err-finish_message-clause-crash
returns-in_err-finish_message-clause-crash g c =
    let p = err_from_is_err_and c.from_residual.result c.from_residual.ensures.1 in
    let e : is_directive c.args.line ≡ true =
    sym (c.is_directive.ensures ∙ ap is_directive c.as_str.ensures) ∙ c.if-is_directive.true in
    let s = standing (g.S.Records.desk c.args.store.now) c.args.run.now.sender c.args.run.now.refused in
    rw p.1 (λ lines. holds_weaker c.in_err-finish_message.ensures.crash
    (λ x. failed_at_message g.S.Records.leaves _ _ _ c.args.run.now.gathered.items c.args.line lines s _ p.0 e x))

pub returns-in_err-carry_out-clause-crash : goal.returns-in_err-carry_out-clause-crash
returns-in_err-carry_out-clause-crash g c =
    let p = err_from_is_err_and c.from_residual-in_err-carry_out.result c.from_residual-in_err-carry_out.ensures.1 in
    let e : is_directive c.args.line ≡ true =
    sym (c.is_directive.ensures ∙ ap is_directive c.as_str.ensures) ∙ c.if-is_directive.true in
    let s = standing (g.S.Records.desk c.args.store.now) c.args.run.now.sender c.args.run.now.refused in
    let t = standing (g.S.Records.desk c.finish_message.new.store) c.finish_message.new.run.sender c.finish_message.new.run.refused in
    rw p.1 (λ lines. holds_then
    (holds_three c.in_ok-finish_message.ensures.stays c.in_ok-finish_message.ensures.answer c.in_ok-finish_message.ensures.crash)
    (rw c.as_str-then-is_directive.ensures at c.in_err-carry_out.ensures.crash)
    (λ q x. failed_at_directive g.S.Records.leaves _ _ _ _ _ c.args.run.now.gathered.items c.args.line lines s t _ p.0 e q.0
    (one_ran _ _ _ _ _ q.1.0).0 q.1.1 x))

pub returns-in_err-push-clause-crash : goal.returns-in_err-push-clause-crash
returns-in_err-push-clause-crash g c =
    let p = err_from_is_err_and c.from_residual-in_err-push.result c.from_residual-in_err-push.ensures.1 in
    rw p.1 (λ lines. holds_none _ _ _ (parts_settled g.S.Records.leaves {T = Unit {0}} _ _ _ _ _ _ (Err p.0) (λ alone. alone)))
