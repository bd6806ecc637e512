use Rattle.std.proofs.Common.{ℕ, List, [], ◌∷◌, None, sym, ap, ◌∙◌, subst, arith}
use Rattle.std.proofs.lemmas.Bool.{false≢true}
use Rattle.std.proofs.lemmas.Grind.{common_steps}
use Rattle.bug_record.specs.Commands.{bugs_named}
use Rattle.bug_record.specs.Differences.{first_difference, package_difference}
use Rattle.bug_record.specs.Merges.{sets_joined}
use Rattle.bug_record.specs.Clones.{cloned}
use Rattle.std.specs.Option.{option_copied}
use Rattle.bug_record.specs.declared.command.Command.{Command}
use Rattle.bug_core.specs.Planned.{step_with, IsPlanned, IsPlannedOf}
use Rattle.bug_fields.specs.Members.{leaves_members}
use Rattle.bug_fields.proofs.MemberLemmas.{leaves-changes}
use Rattle.bug_core.proofs.StepLemmas.{planned-merge, planned-forcemerge, planned-others}
use Rattle.bug_core.proofs.plans.plan_command.Goals as goal

pub returns-in-Merge-clause-plan : goal.returns-in-Merge-clause-plan
returns-in-Merge-clause-plan c =
    subst (λ (command : Command ℕ). IsPlanned (bugs_named command)
    (step_with (option_copied c.args.open_head) c.args.from.now command) c.args.images.now c.args.next c.plan_merge.result) (sym c.in-Merge.is)
    (planned-merge (option_copied c.args.open_head) c.args.from.now c.in-Merge.number c.in-Merge.others c.args.images.now c.args.next c.plan_merge.result
    (subst (λ (ns : List ℕ). IsPlannedOf (c.in-Merge.number ∷ ns) (λ d. sets_joined first_difference d c.in-Merge.number ns)
    c.args.images.now c.args.next c.plan_merge.result) c.as_slice.ensures c.plan_merge.ensures))

pub returns-in-ForceMerge-clause-plan : goal.returns-in-ForceMerge-clause-plan
returns-in-ForceMerge-clause-plan c =
    subst (λ (command : Command ℕ). IsPlanned (bugs_named command)
    (step_with (option_copied c.args.open_head) c.args.from.now command) c.args.images.now c.args.next c.plan_merge-in-ForceMerge.result) (sym c.in-ForceMerge.is)
    (planned-forcemerge (option_copied c.args.open_head) c.args.from.now c.in-ForceMerge.number c.in-ForceMerge.others c.args.images.now c.args.next
    c.plan_merge-in-ForceMerge.result
    (subst (λ (ns : List ℕ). IsPlannedOf (c.in-ForceMerge.number ∷ ns)
    (λ d. sets_joined package_difference d c.in-ForceMerge.number ns) c.args.images.now c.args.next
    c.plan_merge-in-ForceMerge.result) c.as_slice-in-ForceMerge.ensures c.plan_merge-in-ForceMerge.ensures))

pub returns-in-Clone-clause-plan : goal.returns-in-Clone-clause-plan
returns-in-Clone-clause-plan c =
    subst (λ (command : Command ℕ). IsPlanned (bugs_named command)
    (step_with (option_copied c.args.open_head) c.args.from.now command) c.args.images.now c.args.next c.plan_clone.result) (sym c.in-Clone.is)
    (subst (λ (ks : List ℕ). IsPlannedOf (c.in-Clone.number ∷ []) (λ d. cloned (λ _. None) d c.in-Clone.number ks) c.args.images.now
    c.args.next c.plan_clone.result) c.as_slice-in-Clone.ensures c.plan_clone.ensures)

pub returns-in_default-clause-plan : goal.returns-in_default-clause-plan
returns-in_default-clause-plan c =
    planned-others (option_copied c.args.open_head) c.args.from.now c.args.command.now c.args.images.now c.args.next
    c.plan_records.result c.in_default.not-Merge c.in_default.not-ForceMerge c.in_default.not-Unmerge c.in_default.not-Clone
    c.plan_records.ensures.plan

pub returns-in-Unmerge-clause-plan : goal.returns-in-Unmerge-clause-plan
returns-in-Unmerge-clause-plan c = grind (arith, common_steps)

pub returns-in-Merge-clause-leaves : goal.returns-in-Merge-clause-leaves
returns-in-Merge-clause-leaves c = λ i h k.
    absurd (false≢true (ap (λ (z : Command ℕ). leaves_members z i.shared) (sym c.in-Merge.is) ∙ k))

pub returns-in-ForceMerge-clause-leaves : goal.returns-in-ForceMerge-clause-leaves
returns-in-ForceMerge-clause-leaves c = λ i h k.
    absurd (false≢true (ap (λ (z : Command ℕ). leaves_members z i.shared) (sym c.in-ForceMerge.is) ∙ k))

pub returns-in-Clone-clause-leaves : goal.returns-in-Clone-clause-leaves
returns-in-Clone-clause-leaves c = λ i h k.
    absurd (false≢true (ap (λ (z : Command ℕ). leaves_members z i.shared) (sym c.in-Clone.is) ∙ k))

pub returns-in-Unmerge-clause-leaves : goal.returns-in-Unmerge-clause-leaves
returns-in-Unmerge-clause-leaves c = λ i h k.
    absurd (false≢true (ap (λ (z : Command ℕ). leaves_members z i.shared) (sym c.in-Unmerge.is) ∙ k))

pub returns-in_default-clause-leaves : goal.returns-in_default-clause-leaves
returns-in_default-clause-leaves c = λ i h k.
    c.plan_records.ensures.leaves i h (leaves-changes c.args.command.now i.shared k)
