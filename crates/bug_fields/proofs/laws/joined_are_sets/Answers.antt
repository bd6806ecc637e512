use Rattle.bug_record.specs.Bugs.{all_of}
use Rattle.base_sequences.proofs.SetLemmas.{IsAscending-number_set}
use Rattle.bug_record.proofs.MergeLemmas.{ascending-joined_blockers}
use Rattle.bug_record.proofs.MarkLemmas.{sorted-node_set}
use Rattle.bug_record.proofs.PackageLemmas.{sorted-name_set}
use Rattle.bug_record.proofs.TagLemmas.{set-joined_tags}
use Rattle.bug_fields.proofs.laws.joined_are_sets.Goals as goal

pub returns-clause-merged : goal.returns-clause-merged
returns-clause-merged c = λ bugs. IsAscending-number_set (all_of (λ b. b.merged) bugs)

pub returns-clause-tags : goal.returns-clause-tags
returns-clause-tags c = set-joined_tags

pub returns-clause-affects : goal.returns-clause-affects
returns-clause-affects c = λ first bugs. sorted-name_set (all_of (λ b. b.shared.affects) bugs)

pub returns-clause-found : goal.returns-clause-found
returns-clause-found c = λ first bugs. sorted-node_set (all_of (λ b. b.shared.found) bugs)

pub returns-clause-fixed : goal.returns-clause-fixed
returns-clause-fixed c = λ first bugs. sorted-node_set (all_of (λ b. b.shared.fixed) bugs)

pub returns-clause-blockers : goal.returns-clause-blockers
returns-clause-blockers c = λ first bugs. ascending-joined_blockers bugs
