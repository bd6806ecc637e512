use Rattle.std.proofs.Common.{rules}
use Rattle.base_words.proofs.named.name_word.Goals as goal

pub returns-in-Some-Name : goal.returns-in-Some-Name
returns-in-Some-Name c = search rules
