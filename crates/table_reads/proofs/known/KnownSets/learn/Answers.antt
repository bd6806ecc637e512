use Rattle.std.proofs.Common.{◌∙◌}
use Rattle.table_reads.proofs.KnownLemmas.{learnt_under, none_learnt}
use Rattle.table_reads.proofs.known.KnownSets.learn.Goals as goal

pub returns-then-key-own-clause-learns : goal.returns-then-key-own-clause-learns
returns-then-key-own-clause-learns c = none_learnt c.args.key c.args.image.now _

pub returns-clause-learns : goal.returns-clause-learns
returns-clause-learns c =
    learnt_under c.args.key c.args.image.now _ _ (c.if-key-own.false ∙ c.key_of-own.ensures) c.learn_image.ensures.learns
