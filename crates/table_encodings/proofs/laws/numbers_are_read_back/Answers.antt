use Rattle.table_encodings.proofs.TagLemmas.{read_back, number_below, number_back}
use Rattle.table_encodings.proofs.OutcomeLemmas.{outcome_back}
use Rattle.table_encodings.proofs.laws.numbers_are_read_back.Goals as goal

pub returns-clause-tags : goal.returns-clause-tags
returns-clause-tags c = read_back

pub returns-clause-below : goal.returns-clause-below
returns-clause-below c = number_below

pub returns-clause-numbers : goal.returns-clause-numbers
returns-clause-numbers c = number_back

pub returns-clause-outcomes : goal.returns-clause-outcomes
returns-clause-outcomes c = outcome_back
