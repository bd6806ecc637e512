use Rattle.std.proofs.Common.{◌≡◌, ℕ, List, [], ◌∷◌, true, false, sym, ap, subst, ◌∙◌}
use Rattle.std.proofs.lemmas.Result.{IfOk-weaker}
use Rattle.bug_record.specs.Changed.{same_shared, AreChanged}
use Rattle.bug_record.specs.Images.{numbers_of, bug_in}
use Rattle.bug_images.proofs.KeptLemmas.{changed-shared, changed-none, alike-kept}
use Rattle.bug_images.proofs.kept.changed_together.Goals as goal

pub returns-then-same_shared : goal.returns-then-same_shared
returns-then-same_shared c =
    let alike : same_shared c.args.old.now.shared c.args.new.now.shared ≡ true =
    sym (λ j. same_shared (c.fields.ensures j) (c.fields-2.ensures j)) ∙ sym c.same_shared.ensures
    ∙ c.if-same_shared.true in
    subst (λ (r : List ℕ). AreChanged (bug_in (c.args.old.now ∷ [])) (bug_in (c.args.new.now ∷ [])) r) (sym c.new.ensures)
    (changed-none c.args.old.now c.args.new.now c.requires.alike c.requires.ascending alike)

pub returns : goal.returns
returns c =
    let other : same_shared c.args.old.now.shared c.args.new.now.shared ≡ false =
    sym (λ j. same_shared (c.fields.ensures j) (c.fields-2.ensures j)) ∙ sym c.same_shared.ensures
    ∙ c.if-same_shared.false in
    IfOk-weaker c.numbers_of.result _ _
    (λ r e. changed-shared c.args.old.now c.args.new.now r
    (alike-kept c.args.old.now c.args.new.now c.requires.alike c.requires.ascending) other (e ∙ ap numbers_of c.as_slice.ensures))
    c.numbers_of.ensures
