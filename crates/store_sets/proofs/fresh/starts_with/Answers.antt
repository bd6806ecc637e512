use Rattle.std.proofs.Common.{sym}
use Rattle.store_sets.proofs.FreshLemmas.{first-has}
use Rattle.store_sets.proofs.fresh.starts_with.Goals as goal

pub returns-in-Some : goal.returns-in-Some
returns-in-Some c = λ h. first-has c.args.members.now c.in-Some.member.now c.args.number (sym c.in-Some.ensures.value) h
