use Rattle.std.proofs.Common.{◌≡◌, ℕ, false, [], ◌∷◌, Err, sym, ap, ◌∙◌, subst, IfOk}
use Rattle.std.proofs.lemmas.Option.{same_Some}
use Rattle.std.specs.Option.{option_copied}
use Rattle.std.proofs.lemmas.Result.{IfOk-from_err}
use Rattle.bug_record.specs.Images.{image_with}
use Rattle.bug_record.specs.declared.command.PlanFault.TheVariants.{Refused}
use Rattle.bug_record.specs.declared.command.Refusal.TheVariants.{NoBug}
use Rattle.bug_record.specs.declared.bug.SetImage.{SetImage}
use Rattle.bug_record.specs.declared.command.Change.{Change}
use Rattle.bug_fields.specs.Members.{changes_members}
use Rattle.bug_images.specs.Alike.{BeginAlike}
use Rattle.bug_core.specs.Planned.{IsRecordsPlan}
use Rattle.bug_core.proofs.PlanLemmas.{planned-tested, planned-no_bug, planned-no_memory}
use Rattle.bug_core.proofs.plans.plan_records.Goals as goal

pub returns-in_default-clause-plan : goal.returns-in_default-clause-plan
returns-in_default-clause-plan c =
    subst (λ (n : ℕ). IsRecordsPlan (option_copied c.args.open_head) c.args.from.now c.args.command.now c.args.images.now
    c.args.next (Err (Refused (NoBug n)))) (sym c.bug_named-number.ensures)
    (planned-no_bug (option_copied c.args.open_head) c.args.from.now c.args.command.now c.args.images.now c.args.next
    (ap (image_with c.args.images.now) (sym c.bug_named-number.ensures) ∙ c.in_default.ensures))

pub returns-in-Some-2-clause-plan : goal.returns-in-Some-2-clause-plan
returns-in-Some-2-clause-plan c =
    planned-tested (option_copied c.args.open_head) c.args.from.now c.args.command.now c.args.images.now c.args.next
    c.in-Some.image.now c.in-Some-2.refusal
    (ap (image_with c.args.images.now) (sym c.bug_named-number.ensures) ∙ c.in-Some.ensures)
    (sym c.in_ok-refusal.ensures ∙ c.in-Some-2.is)

pub records_refusal-requires : goal.records_refusal-requires
records_refusal-requires c =
    record { named = ap (image_with c.args.images.now) (sym c.bug_named-number.ensures) ∙ c.in-Some.ensures }

pub change_records-requires-clause-named : goal.change_records-requires-clause-named
change_records-requires-clause-named c =
    ap (image_with c.args.images.now) (sym c.bug_named-number.ensures) ∙ c.in-Some.ensures

pub returns-clause-plan : goal.returns-clause-plan
returns-clause-plan c = c.change_records.ensures.plan (option_copied c.args.open_head) (sym c.in_ok-refusal.ensures ∙ c.in_default-2.is)

pub returns-in_err-refusal-clause-plan : goal.returns-in_err-refusal-clause-plan
returns-in_err-refusal-clause-plan c = planned-no_memory _ _ _ _ c.from_residual.result c.from_residual.ensures.1

pub returns-clause-leaves : goal.returns-clause-leaves
returns-clause-leaves c = λ i h k.
    let e : c.in-Some.image.now ≡ i =
    same_Some c.in-Some.image.now i (sym c.in-Some.ensures ∙ ap (image_with c.args.images.now) c.bug_named-number.ensures ∙ h) in
    subst (λ (j : SetImage). IfOk c.change_records.result (λ (change : Change). BeginAlike (j ∷ []) change.images)) e
    (c.change_records.ensures.leaves
    (subst (λ (j : SetImage). changes_members c.args.command.now j.shared ≡ false) (sym e) k))

pub returns-in_default-clause-leaves : goal.returns-in_default-clause-leaves
returns-in_default-clause-leaves c = λ i h k. tt

pub returns-in-Some-2-clause-leaves : goal.returns-in-Some-2-clause-leaves
returns-in-Some-2-clause-leaves c = λ i h k. tt

pub returns-in_err-refusal-clause-leaves : goal.returns-in_err-refusal-clause-leaves
returns-in_err-refusal-clause-leaves c = λ i h k. IfOk-from_err _ _ c.from_residual.ensures.0
