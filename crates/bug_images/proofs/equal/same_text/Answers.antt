use Rattle.std.proofs.Common.{rules}
use Rattle.bug_images.proofs.equal.same_text.Goals as goal

pub returns-in-Some-None : goal.returns-in-Some-None
returns-in-Some-None c = search rules

pub returns-in-Some-None-2 : goal.returns-in-Some-None-2
returns-in-Some-None-2 c = search rules
