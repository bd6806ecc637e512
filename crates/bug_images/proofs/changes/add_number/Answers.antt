use Rattle.std.proofs.Common.{◌≡◌, true, not, refl, sym, ap, ◌∙◌}
use Rattle.std.proofs.lemmas.Result.{on_ok_weaker}
use Rattle.bug_images.specs.Changes.{differs}
use Rattle.bug_images.proofs.JoinLemmas.{join-number, join-none}
use Rattle.bug_images.proofs.changes.add_number.Goals as goal

pub returns-clause-numbers : goal.returns-clause-numbers
returns-clause-numbers c =
    let differ : differs c.args.before.now c.args.after.now c.args.number ≡ true =
    ap not (sym c.same_bug.ensures.value ∙ c.if-same_bug.false) in
    on_ok_weaker c.add_number.result (λ e. join-number (differs c.args.before.now c.args.after.now) c.args.set.now.keys
    c.add_number.new.set.keys c.args.number differ e) c.add_number.ensures

pub returns-then-same_bug-clause-numbers : goal.returns-then-same_bug-clause-numbers
returns-then-same_bug-clause-numbers c = join-none (differs c.args.before.now c.args.after.now) c.args.set.now.keys c.args.set.now.keys c.args.number (ap not (sym c.same_bug.ensures.value ∙ c.if-same_bug.true)) refl
