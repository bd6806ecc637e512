use Rattle.control_text.specs.WordLines.{meant_words}
use Rattle.control_text.proofs.JoinLemmas.{words-of_joined, words-of_one}
use Rattle.control_text.proofs.word_laws.a_line_has_the_words_of_its_command.Goals as goal

pub returns-clause-joined : goal.returns-clause-joined
returns-clause-joined c = λ last command. words-of_joined (meant_words last command)

pub returns-clause-one : goal.returns-clause-one
returns-clause-one c = words-of_one
