use Rattle.control_text.proofs.SpellingLaw.{spelling-read}
use Rattle.control_text.proofs.laws.spelling_is_read_back.Goals as goal

pub returns : goal.returns
returns c = λ command good. spelling-read command good
