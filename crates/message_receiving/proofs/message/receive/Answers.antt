use Rattle.std.proofs.Common.{arith, inl, inr, refl, subst, ◌∙◌, sym}
use Rattle.store_contract.proofs.HoldsLemmas.{holds_none}
use Rattle.message_receiving.proofs.MachineLemmas.{received_nothing, comes_to_nothing}
use Rattle.control_lines.proofs.LineLemmas.{some_line, no_lines}
use Rattle.message_receiving.specs.Ends.{IsLineOf}
use Rattle.message_receiving.proofs.message.receive.Goals as goal

pub returns-then-is_empty-clause-answer : goal.returns-then-is_empty-clause-answer
returns-then-is_empty-clause-answer g c =
    holds_none _ _ _ (received_nothing _ _ _ _ (no_lines c.args.message.now (sym c.is_empty.ensures ∙ c.if-is_empty.true))
    c.new.ensures)

pub returns-in-Err-clause-answer : goal.returns-in-Err-clause-answer
returns-in-Err-clause-answer g c =
    holds_none _ _ _ (
      omega arith,
      some_line c.args.message.now (sym c.is_empty.ensures ∙ c.if-is_empty.false),
      comes_to_nothing _ _ _ c.new-in-Err.ensures,
    )

pub returns-in-Err-clause-line : goal.returns-in-Err-clause-line
returns-in-Err-clause-line g c = inr refl

pub returns-in-Ok-clause-line : goal.returns-in-Ok-clause-line
returns-in-Ok-clause-line g c =
    inl (subst (IsLineOf c.receive_lines.result.end) (c.as_slice.ensures.value ∙ c.in-Ok.ensures) c.receive_lines.ensures.line)

pub returns-then-is_empty-clause-line : goal.returns-then-is_empty-clause-line
returns-then-is_empty-clause-line g c = inl tt
