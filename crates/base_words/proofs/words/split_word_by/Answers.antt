use Rattle.std.proofs.Common.{rules}
use Rattle.base_words.proofs.words.split_word_by.Goals as goal

pub returns-else-is_empty-clause-cut : goal.returns-else-is_empty-clause-cut
returns-else-is_empty-clause-cut c = search rules

pub returns-else-is_empty-clause-shorter : goal.returns-else-is_empty-clause-shorter
returns-else-is_empty-clause-shorter c = search rules
