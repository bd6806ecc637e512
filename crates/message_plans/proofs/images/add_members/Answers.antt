use Rattle.std.proofs.Common.{◌∙◌}
use Rattle.message_plans.proofs.GatherLemmas.{number-more}
use Rattle.message_plans.proofs.images.add_members.Goals as goal

pub loop-member-preserved : goal.loop-member-preserved
loop-member-preserved c = λ n.
    number-more c.loop-member.bugs c.insert.new.self c.args.members.now c.loop-member.member-index c.member-item.result
    c.loop-member-test.true c.member-item.is c.in_ok-insert.ensures.updates.0 n ∙ c.loop-member.invariant n
