use Rattle.message_receiving.proofs.DecidingLemmas.{ready-plain}
use Rattle.message_receiving.proofs.line_decision.decide_plain.Goals as goal

pub returns-clause-ready : goal.returns-clause-ready
returns-clause-ready c = (
  c.in_ok-text.ensures.text,
  ready-plain c.args.progress.now.outcomes.items _ _ _ c.args.line.now _ c.args.outcome _ c.requires.in_step
      c.make_room.ensures.same c.in_ok-text.ensures.text c.without_change.ensures.outcome c.requires.plain,
)
