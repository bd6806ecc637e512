use Rattle.std.proofs.Common.{[], ◌∷◌, ◌∙◌, subst}
use Rattle.debver.specs.Names.{IsName}
use Rattle.bug_record.specs.Commands.{bug_named, bugs_named}
use Rattle.bug_record.specs.Steps.{shared_after}
use Rattle.bug_record.specs.declared.bug.Shared.{Shared}
use Rattle.std.specs.Prelude.{map}
use Rattle.bug_fields.specs.Members.{member_after}
use Rattle.bug_record.specs.declared.command.Refusal.TheVariants.{NoBug}
use Rattle.std.proofs.lemmas.Str.{is_utf8-from_IsUtf8}
use Rattle.bug_core.specs.Others.{others}
use Rattle.bug_fields.proofs.MemberLemmas.{members-unchanged}
use Rattle.bug_core.proofs.PlanLemmas.{begins-alike, records_step, planned-records, planned-memory, planned-nameless}
use Rattle.bug_core.proofs.plans.change_records.Goals as goal

pub returns-in-Err-Memory-clause-plan : goal.returns-in-Err-Memory-clause-plan
returns-in-Err-Memory-clause-plan c = λ head r.
    planned-memory (bugs_named c.args.command.now) (records_step head c.args.from.now c.args.command.now) c.args.images.now
    c.args.next

pub returns-in-Err-Refused-clause-plan : goal.returns-in-Err-Refused-clause-plan
returns-in-Err-Refused-clause-plan c = λ head r.
    let nameless = rw c.in-Err-Refused.field-0-is at c.in-Err-Refused.ensures.fault in
    let shown = subst (λ (s : Shared). IsName s.«package» → ⊥) c.fields.ensures nameless in
    planned-nameless (bugs_named c.args.command.now) (records_step head c.args.from.now c.args.command.now) c.args.images.now
    c.args.next (bug_named c.args.command.now) c.args.image.now (NoBug c.bug_named.result) tt c.requires.named shown

pub returns-in-Ok-changed_set-clause-plan : goal.returns-in-Ok-changed_set-clause-plan
returns-in-Ok-changed_set-clause-plan c = λ head r.
    planned-records head c.args.from.now c.args.command.now c.args.images.now c.args.next c.args.image.now
    (c.requires.sender, is_utf8-from_IsUtf8 c.args.from.now c.utf8.from) c.requires.parts c.texts_are_utf8.ensures
    c.requires.apart c.requires.named r
    c.in-Ok-changed_set.change
    (c.in-Ok-changed_set.ensures.images ∙ (λ j. record {
      shared = (c.in-Ok.ensures.value
          ∙ (λ k. shared_after c.args.from.now c.args.command.now (c.fields.ensures k))) j;
      members = map (member_after c.args.from.now c.args.command.now c.args.image.now.shared) c.args.image.now.members;
    } ∷ others (bug_named c.args.command.now ∷ []) c.args.images.now))
    c.in-Ok-changed_set.ensures.next

pub returns-in-Err-clause-plan : goal.returns-in-Err-clause-plan
returns-in-Err-clause-plan c = λ head r.
    planned-memory (bugs_named c.args.command.now) (records_step head c.args.from.now c.args.command.now) c.args.images.now
    c.args.next

pub returns-in-Ok-changed_set-clause-leaves : goal.returns-in-Ok-changed_set-clause-leaves
returns-in-Ok-changed_set-clause-leaves c = λ h.
    begins-alike c.args.image.now _ _ _ (members-unchanged c.args.from.now c.args.command.now c.args.image.now.shared h c.args.image.now.members)
    c.in-Ok-changed_set.ensures.images

pub returns-in-Err-Memory-clause-leaves : goal.returns-in-Err-Memory-clause-leaves
returns-in-Err-Memory-clause-leaves c = λ k. tt

pub returns-in-Err-Refused-clause-leaves : goal.returns-in-Err-Refused-clause-leaves
returns-in-Err-Refused-clause-leaves c = λ k. tt

pub returns-in-Err-clause-leaves : goal.returns-in-Err-clause-leaves
returns-in-Err-clause-leaves c = λ k. tt
