use Rattle.message_directives.proofs.ListedLemmas.{listed_there, there_listed}
use Rattle.message_directives.proofs.laws.a_list_has_the_bugs_found_there.Goals as goal

pub returns-clause-only : goal.returns-clause-only
returns-clause-only c = listed_there

pub returns-clause-all : goal.returns-clause-all
returns-clause-all c = there_listed
