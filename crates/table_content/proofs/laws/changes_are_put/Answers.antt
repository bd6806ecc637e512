use Rattle.table_content.proofs.ChangeLemmas.{change_desk, change_kept}
use Rattle.table_content.proofs.KeepLemmas.{change_keeping}
use Rattle.table_content.proofs.laws.changes_are_put.Goals as goal

pub returns-clause-desk : goal.returns-clause-desk
returns-clause-desk c = change_desk

pub returns-clause-kept : goal.returns-clause-kept
returns-clause-kept c = change_kept

pub returns-clause-keeping : goal.returns-clause-keeping
returns-clause-keeping c = change_keeping
