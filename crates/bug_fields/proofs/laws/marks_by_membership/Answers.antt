use Rattle.bug_record.proofs.MarkLemmas.{has-with_node, has-without_node}
use Rattle.bug_fields.proofs.laws.marks_by_membership.Goals as goal

pub returns-clause-with : goal.returns-clause-with
returns-clause-with c = has-with_node

pub returns-clause-without : goal.returns-clause-without
returns-clause-without c = has-without_node
