use Rattle.store_contract.proofs.HoldsLemmas.{asks_weaker}
use Rattle.message_receiving.proofs.DecidingLemmas.{ready-named, decides_line}
use Rattle.message_receiving.proofs.line_decision.decide_command_line.Goals as goal

pub returns-clause-answer : goal.returns-clause-answer
returns-clause-answer g c =
    asks_weaker c.in_ok-decision.ensures.answer (λ p. (
      λ have.
          let q = p.0 have in (
            decides_line c.args.from.now c.args.line.now c.args.progress.now.known.names _ c.args.progress.now.outcomes.items
                c.args.command c.in_ok-decision.decision c.requires.in_step.known_are c.requires.reads q.0,
            q.1,
          ),
      p.1,
    ))

pub returns-clause-ready : goal.returns-clause-ready
returns-clause-ready g c = (
  c.in-Ok.ensures.text,
  ready-named c.args.progress.now.outcomes.items _ _ c.args.progress.now.known.names _ c.args.line.now _ c.args.command
      c.in_ok-decision.decision.outcome c.requires.in_step c.make_room.ensures.same c.in-Ok.ensures.text c.requires.reads
      c.in_ok-decision.ensures.named,
)
