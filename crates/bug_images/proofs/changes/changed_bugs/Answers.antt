use Rattle.std.proofs.Common.{sym, refl}
use Rattle.std.proofs.lemmas.Result.{IfOk-weaker}
use Rattle.bug_images.proofs.KeptLemmas.{changed-in_first}
use Rattle.bug_images.proofs.changes.changed_bugs.Goals as goal

pub returns-then-same_images : goal.returns-then-same_images
returns-then-same_images c =
    IfOk-weaker c.changed_in_place.result _ _
    (changed-in_first c.args.old.now c.args.new.now c.in-Some-Some.before.now c.in-Some-Some.after.now
    c.in-Some-Some.others.now c.in-Some-Some.new_others.now c.in-Some-Some.ensures.cases.0 c.in-Some-Some.ensures'.cases.0
    (c.if-is_kept.ensures refl) (sym c.if-same_images.ensures)) c.changed_in_place.ensures
