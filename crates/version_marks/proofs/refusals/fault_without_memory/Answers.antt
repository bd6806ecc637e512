use Rattle.std.proofs.Common.{refl, sym, ◌∙◌}
use Rattle.ancestry.proofs.TakeLemmas.{branched_empty, branched_long, branched_repeated, taken_takes}
use Rattle.version_marks.proofs.refusals.fault_without_memory.Goals as goal

pub returns-then-is_empty-clause-exact : goal.returns-then-is_empty-clause-exact
returns-then-is_empty-clause-exact c = λ t. (branched_empty t c.args.nodes.now (sym c.is_empty.ensures ∙ c.if-is_empty.true), refl)

pub returns-then-nodes-gt-MOST_NODES-clause-exact : goal.returns-then-nodes-gt-MOST_NODES-clause-exact
returns-then-nodes-gt-MOST_NODES-clause-exact c = λ t.
    (branched_long t c.args.nodes.now (sym c.is_empty.ensures ∙ c.if-is_empty.false) c.if-nodes-gt-MOST_NODES.true, refl)

pub returns-in-Some-clause-exact : goal.returns-in-Some-clause-exact
returns-in-Some-clause-exact c = λ t. (
  branched_repeated t c.args.nodes.now c.in-Some.place (sym c.is_empty.ensures ∙ c.if-is_empty.false)
      c.if-nodes-gt-MOST_NODES.false c.in-Some.ensures,
  refl,
)

pub returns-in-None-clause-memory : goal.returns-in-None-clause-memory
returns-in-None-clause-memory c = λ t h.
    taken_takes t c.args.nodes.now (sym c.is_empty.ensures ∙ c.if-is_empty.false) c.if-nodes-gt-MOST_NODES.false c.in-None.ensures
