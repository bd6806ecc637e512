use Rattle.std.proofs.Common.{length, List, sym, ap, arith, ◌∙◌}
use Rattle.std.proofs.lemmas.Bool.{ltb-false}
use Rattle.bug_record.specs.declared.bug.Member.{Member}
use Rattle.bug_core.proofs.CloneLemmas.{clone-no_bug, clone-archived, clone-merged, clone-full, clone-done, only_first, some_first}
use Rattle.bug_core.proofs.PlanLemmas.{planned-no_memory, archived-seen}
use Rattle.bug_core.proofs.clones.plan_clone.Goals as goal

pub returns-in_default : goal.returns-in_default
returns-in_default c = clone-no_bug c.args.images.now c.args.next c.args.number c.args.names.now c.in_default.ensures

pub returns-in-Some-archived_refusal : goal.returns-in-Some-archived_refusal
returns-in-Some-archived_refusal c =
    clone-archived c.args.images.now c.args.next c.args.number c.args.names.now c.in-Some.image.now
    c.in-Some-archived_refusal.refusal c.in-Some.ensures (archived-seen c.args.number c.fields.ensures c.archived_refusal.ensures ∙ c.in-Some-archived_refusal.is)

pub returns-then-members-gt1 : goal.returns-then-members-gt1
returns-then-members-gt1 c =
    let many = c.if-members-gt1.true in
    let same = ap (λ (ms : List Member). length ms) c.as_slice-members.ensures in
    clone-merged c.args.images.now c.args.next c.args.number c.args.names.now c.in-Some.image.now c.in-Some.ensures
    (archived-seen c.args.number c.fields.ensures c.archived_refusal.ensures ∙ c.in_default-archived_refusal.is) (omega (arith, many, same))

pub returns-then-is_full : goal.returns-then-is_full
returns-then-is_full c =
    let few = c.if-members-gt1.false in
    let same = ap (λ (ms : List Member). length ms) c.as_slice-members.ensures in
    clone-full c.args.images.now c.args.next c.args.number c.args.names.now c.in-Some.image.now c.in-Some.ensures
    (archived-seen c.args.number c.fields.ensures c.archived_refusal.ensures ∙ c.in_default-archived_refusal.is) (omega (arith, few, same))
    (sym c.is_full.ensures ∙ c.if-is_full.true)

pub returns-in_ok-add_clones-in-Some-first : goal.returns-in_ok-add_clones-in-Some-first
returns-in_ok-add_clones-in-Some-first c =
    let few = c.if-members-gt1.false in
    clone-done c.args.images.now c.args.next c.args.number c.args.names.now c.in-Some.image.now c.in-Some-first.member.now
    c.requires.apart c.in-Some.ensures (archived-seen c.args.number c.fields.ensures c.archived_refusal.ensures ∙ c.in_default-archived_refusal.is)
    (sym c.as_slice-members.ensures
    ∙ only_first c.as_slice-members.result.now c.in-Some-first.member.now (sym c.in-Some-first.ensures.value) (omega (arith, few)))
    (ltb-false 1000000000 _ (sym c.is_full.ensures ∙ c.if-is_full.false)) c.in_ok-add_clones-in-Some-first.field-0
    c.in_ok-add_clones-in-Some-first.ensures.images c.in_ok-add_clones-in-Some-first.ensures.next

pub returns-in-None : goal.returns-in-None
returns-in-None c =
    absurd (some_first c.args.images.now c.args.number c.in-Some.image.now c.in-Some.ensures c.as_slice-members.result.now
    c.as_slice-members.ensures (sym c.in-None.ensures.value))

pub returns-in_err-add_clones-in-Some-first : goal.returns-in_err-add_clones-in-Some-first
returns-in_err-add_clones-in-Some-first c = planned-no_memory _ _ _ _ c.from_residual.result c.from_residual.ensures.1
