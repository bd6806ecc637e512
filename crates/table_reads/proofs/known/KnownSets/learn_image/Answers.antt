use Rattle.std.proofs.Common.{ℕ, List, sym, ap, subst, ◌∙◌}
use Rattle.version_nodes.specs.Trees.{Ancestry}
use Rattle.bug_record.specs.Images.{CoverSets}
use Rattle.bug_record.specs.declared.bug.SetImage.{SetImage}
use Rattle.store_sets.specs.Plain.{desk_of, keyed_of}
use Rattle.table_reads.proofs.KnownLemmas.{put_part, put_keeps, put_same, after_learnt, same_learnt, unknown_covers, unknown_keeps}
use Rattle.table_reads.proofs.known.KnownSets.learn_image.Goals as goal

pub put-requires-clause-whole : goal.put-requires-clause-whole
put-requires-clause-whole c =
    let old = c.args.self.now.bugs in
    subst (λ (is : List SetImage). (tree : Ancestry) (next : ℕ) → CoverSets (desk_of old tree next) is) (sym c.from_ref.ensures.value)
    (unknown_covers (keyed_of old).key (keyed_of old).set old.keyed c.args.image.now (c.may_learn.ensures c.if-not-may_learn.false))

pub returns-in-Ok-clause-learns : goal.returns-in-Ok-clause-learns
returns-in-Ok-clause-learns c =
    after_learnt c.args.image.now _ _ (put_part c.args.image.now c.from_ref.result.now (keyed_of c.args.self.now.bugs) (keyed_of c.count.new.self.bugs) c.from_ref.ensures.value (ap keyed_of c.count.ensures ∙ c.in-Ok.ensures.ok))

pub returns-in-Ok-clause-keeps : goal.returns-in-Ok-clause-keeps
returns-in-Ok-clause-keeps c =
    let old = c.args.self.now.bugs in
    put_keeps c.args.image.now c.from_ref.result.now (keyed_of old) (keyed_of c.count.new.self.bugs) c.from_ref.ensures.value (ap keyed_of c.count.ensures ∙ c.in-Ok.ensures.ok)
    (unknown_keeps (keyed_of old).key (keyed_of old).set old.keyed c.args.image.now (c.may_learn.ensures c.if-not-may_learn.false))

pub returns-in-Err-clause-learns : goal.returns-in-Err-clause-learns
returns-in-Err-clause-learns c = same_learnt c.args.image.now _ _ (put_same (keyed_of c.args.self.now.bugs) (keyed_of c.put.new.self) c.in-Err.ensures.err)

pub returns-in-Err-clause-keeps : goal.returns-in-Err-clause-keeps
returns-in-Err-clause-keeps c = put_same (keyed_of c.put.new.self) (keyed_of c.args.self.now.bugs) (sym c.in-Err.ensures.err)
