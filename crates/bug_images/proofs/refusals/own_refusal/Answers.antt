use Rattle.std.proofs.Common.{rules, arith}
use Rattle.std.proofs.lemmas.Grind.{common_steps}
use Rattle.bug_images.proofs.refusals.own_refusal.Goals as goal

pub returns-in-Unarchive : goal.returns-in-Unarchive
returns-in-Unarchive c = search rules

pub returns-in_default : goal.returns-in_default
returns-in_default c = search rules

pub returns-in-Block : goal.returns-in-Block
returns-in-Block c = grind (arith, common_steps)

pub returns-in-Archive : goal.returns-in-Archive
returns-in-Archive c = grind (arith, common_steps)
