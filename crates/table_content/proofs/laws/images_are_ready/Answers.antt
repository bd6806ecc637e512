use Rattle.std.proofs.Common.{◌∙◌}
use Rattle.table_content.specs.Changes.{cleared_for}
use Rattle.table_content.proofs.ClosedLemmas.{put_nodes, no_nodes}
use Rattle.table_content.proofs.ReadyLemmas.{good, ready}
use Rattle.table_content.proofs.laws.images_are_ready.Goals as goal

pub returns-clause-good : goal.returns-clause-good
returns-clause-good c = λ x change xs i ys kept fits are. good x change kept fits xs i ys are

pub returns-clause-cleared : goal.returns-clause-cleared
returns-clause-cleared c = λ x change xs i ys kept fits are. ready x change kept fits xs i ys are

pub returns-clause-nodes : goal.returns-clause-nodes
returns-clause-nodes c = λ x change xs. put_nodes xs (cleared_for x change) ∙ no_nodes x change.images x
