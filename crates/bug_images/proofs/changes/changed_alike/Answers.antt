use Rattle.std.proofs.Common.{◌≡◌, List, true, None, sym, ap, ◌∙◌}
use Rattle.std.proofs.lemmas.Result.{IfOk-weaker}
use Rattle.bug_record.specs.Images.{numbers_of}
use Rattle.bug_record.specs.declared.bug.Member.{Member}
use Rattle.bug_images.specs.Kept.{ascends}
use Rattle.bug_images.proofs.KeptLemmas.{changed-in_first, alike-kept}
use Rattle.bug_images.proofs.changes.changed_alike.Goals as goal

pub returns-then-same_images : goal.returns-then-same_images
returns-then-same_images c =
    let o = c.in-Some-Some.before.now in
    let n = c.in-Some-Some.after.now in
    let e = c.in-Some-Some.ensures.cases.0 in
    let f = c.in-Some-Some.ensures'.cases.0 in
    let same = c.requires o n c.in-Some-Some.others.now c.in-Some-Some.new_others.now e f in
    let ascending : ascends None (numbers_of n.members) ≡ true =
    sym (c.if-is_ascending.ensures ∙ ap (λ (ms : List Member). ascends None (numbers_of ms)) c.as_slice.ensures) in
    IfOk-weaker c.changed_together.result _ _
    (changed-in_first c.args.old.now c.args.new.now o n c.in-Some-Some.others.now c.in-Some-Some.new_others.now e f
    (alike-kept o n same ascending) (sym c.if-same_images.ensures)) c.changed_together.ensures
