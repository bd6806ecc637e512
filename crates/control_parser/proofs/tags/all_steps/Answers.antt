use Rattle.std.proofs.Common.{rules}
use Rattle.control_parser.proofs.StepLemmas.{steps-preserved}
use Rattle.control_parser.proofs.tags.all_steps.Goals as goal

pub loop-word-preserved : goal.loop-word-preserved
loop-word-preserved c = (
  search rules,
  steps-preserved _ _ _ _ _ _ _ _ _ _ c.in-Some.ensures.cut c.sign_and_rest-sign.ensures.sign c.sign_and_rest-sign.ensures.rest
      c.adds_after-adds.ensures c.in_ok-push_steps.ensures c.loop-word.invariant.1,
)

pub returns-in_err-push_steps : goal.returns-in_err-push_steps
returns-in_err-push_steps c = search rules
