use Rattle.program_options.proofs.FeedLemmas.{cut_again}
use Rattle.program_options.proofs.SentLemmas.{words_plain}
use Rattle.program_options.proofs.laws.sent_lines_are_cut_again.Goals as goal

pub returns-clause-plain : goal.returns-clause-plain
returns-clause-plain c = words_plain

pub returns-clause-cut : goal.returns-clause-cut
returns-clause-cut c words store from id lines is = cut_again lines (words_plain words store from id lines is)
