use Rattle.std.proofs.Common.{refl, sym, ◌∙◌}
use Rattle.store_sets.specs.Plain.{keyed_of}
use Rattle.table_reads.proofs.KnownLemmas.{alone_covers, known_covers, known_is}
use Rattle.table_reads.proofs.known.KnownSets.follow_one.Goals as goal

pub put-requires : goal.put-requires
put-requires c =
    let old = c.args.self.now.bugs in
    let ms = c.args.image.now.members in
    record { whole = known_covers (keyed_of old).key (keyed_of old).set old.keyed c.args.image.now ms refl (sym (known_is old ms) ∙ sym c.is_known.ensures ∙ c.if-is_known.true) }

pub put-requires-then-may_follow : goal.put-requires-then-may_follow
put-requires-then-may_follow c =
    let old = c.args.self.now.bugs in
    record { whole = alone_covers (keyed_of old).key (keyed_of old).set old.keyed c.args.image.now (c.may_follow.ensures c.if-may_follow.true) }
