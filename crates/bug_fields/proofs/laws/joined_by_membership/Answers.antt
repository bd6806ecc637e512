use Rattle.bug_record.proofs.MergeLemmas.{has-all_merged, has-joined_names, has-joined_nodes, has-joined_blockers}
use Rattle.bug_record.proofs.TagLemmas.{has-joined_tags}
use Rattle.bug_fields.proofs.laws.joined_by_membership.Goals as goal

pub returns-clause-merged : goal.returns-clause-merged
returns-clause-merged c = has-all_merged

pub returns-clause-tags : goal.returns-clause-tags
returns-clause-tags c = has-joined_tags

pub returns-clause-affects : goal.returns-clause-affects
returns-clause-affects c = λ first bugs n. has-joined_names bugs n

pub returns-clause-found : goal.returns-clause-found
returns-clause-found c = λ first bugs n. has-joined_nodes (λ b. b.shared.found) bugs n

pub returns-clause-fixed : goal.returns-clause-fixed
returns-clause-fixed c = λ first bugs n. has-joined_nodes (λ b. b.shared.fixed) bugs n

pub returns-clause-blockers : goal.returns-clause-blockers
returns-clause-blockers c = λ first bugs n. has-joined_blockers bugs n
