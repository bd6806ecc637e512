use Rattle.std.proofs.Common.{rules}
use Rattle.std.proofs.Common.{sym, ◌∙◌}
use Rattle.version_marks.proofs.FamilyLemmas.{branch_links}
use Rattle.version_marks.proofs.family.take_into.Goals as goal

pub returns-in-Ok-clause-others : goal.returns-in-Ok-clause-others
returns-in-Ok-clause-others c = λ p n off.
    c.add_pairs.ensures.others p n off ∙ c.requires.fitted p n
    ∙ sym (branch_links c.args.tree.now c.take_branch.new.self c.args.nodes.now c.take_branch.result c.take_branch.ensures.exact p n off)

pub returns-in-Err-clause-memory : goal.returns-in-Err-clause-memory
returns-in-Err-clause-memory c = search rules
