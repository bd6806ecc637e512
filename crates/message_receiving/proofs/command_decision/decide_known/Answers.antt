use Rattle.std.proofs.Common.{rules, ap, ◌∙◌}
use Rattle.bug_record.specs.Clones.{name_refusal}
use Rattle.store_contract.proofs.HoldsLemmas.{asks_weaker}
use Rattle.message_receiving.proofs.command_decision.decide_known.Goals as goal

pub returns-clause-answer : goal.returns-clause-answer
returns-clause-answer g c =
    asks_weaker c.in_ok-decision.ensures.answer
    (λ p. (
      p.0 c.args.known.now.names (c.in_ok-taken.ensures.refusal ∙ ap (name_refusal c.args.known.now.names) c.names_in-names.ensures),
      p.1,
    ))

pub returns-clause-named : goal.returns-clause-named
returns-clause-named g c = search rules
