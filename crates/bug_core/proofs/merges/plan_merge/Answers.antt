use Rattle.std.proofs.Common.{false, List, ◌∷◌, sym, ap, ◌∙◌}
use Rattle.bug_record.specs.Bugs.{first_refusal}
use Rattle.bug_record.specs.Differences.{differing}
use Rattle.bug_record.specs.Images.{bug_in}
use Rattle.bug_record.specs.Words.{first_bug_refusal}
use Rattle.bug_record.specs.declared.bug.SetImage.{SetImage}
use Rattle.bug_core.specs.Agreements.{difference_of}
use Rattle.bug_core.specs.Joins.{joined_image}
use Rattle.bug_core.specs.Others.{others}
use Rattle.bug_core.proofs.MergeLemmas.{merge-no_bug, merge-archived, merge-refused, merge-differs, merge-done}
use Rattle.bug_core.proofs.PlanLemmas.{planned-no_memory, archived-seen}
use Rattle.bug_core.proofs.merges.plan_merge.Goals as goal

pub returns-in_default : goal.returns-in_default
returns-in_default c =
    merge-no_bug (difference_of c.args.agreement) c.args.images.now c.args.next c.args.first c.args.others.now
    c.in_default.ensures

pub returns-in-Some-first_bug_refused : goal.returns-in-Some-first_bug_refused
returns-in-Some-first_bug_refused c =
    merge-refused (difference_of c.args.agreement) c.args.images.now c.args.next c.args.first c.args.others.now
    c.in-Some.image.now c.in-Some-first_bug_refused.refusal c.in-Some.ensures
    (archived-seen c.args.first c.fields-shared.ensures c.archived_refusal.ensures ∙ c.in_default-archived_refusal.is)
    (ap (λ (is : List SetImage). first_bug_refusal false (bug_in is) c.args.others.now) (sym c.in_ok-lookup.ensures)
    ∙ sym c.first_bug_refused.ensures ∙ c.in-Some-first_bug_refused.is)

pub returns-in-Some-first_differing : goal.returns-in-Some-first_differing
returns-in-Some-first_differing c =
    merge-differs (difference_of c.args.agreement) c.args.images.now c.args.next c.args.first c.args.others.now
    c.in-Some.image.now c.in-Some-first_differing.refusal c.in-Some.ensures
    (archived-seen c.args.first c.fields-shared.ensures c.archived_refusal.ensures ∙ c.in_default-archived_refusal.is)
    (ap (λ (is : List SetImage). first_bug_refusal false (bug_in is) c.args.others.now) (sym c.in_ok-lookup.ensures)
    ∙ sym c.first_bug_refused.ensures ∙ c.in_default-first_bug_refused.is)
    ((λ j. first_refusal (differing (difference_of c.args.agreement (sym c.fields-shared.ensures j)))
    (bug_in (sym c.in_ok-lookup.ensures j)) c.args.others.now) ∙ sym c.first_differing.ensures ∙ c.in-Some-first_differing.is)

pub returns : goal.returns
returns c =
    merge-done (difference_of c.args.agreement) c.args.images.now c.args.next c.args.first c.args.others.now c.in-Some.image.now
    c.requires.apart c.in-Some.ensures
    (archived-seen c.args.first c.fields-shared.ensures c.archived_refusal.ensures ∙ c.in_default-archived_refusal.is)
    (ap (λ (is : List SetImage). first_bug_refusal false (bug_in is) c.args.others.now) (sym c.in_ok-lookup.ensures)
    ∙ sym c.first_bug_refused.ensures ∙ c.in_default-first_bug_refused.is)
    ((λ j. first_refusal (differing (difference_of c.args.agreement (sym c.fields-shared.ensures j)))
    (bug_in (sym c.in_ok-lookup.ensures j)) c.args.others.now) ∙ sym c.first_differing.ensures ∙ c.in_default-first_differing.is)
    c.in_ok-joined.field-0
    (c.in_ok-joined.ensures.images
    ∙ (λ j. joined_image (c.fields-shared.ensures j) c.args.images.now (c.args.first ∷ c.args.others.now)
    ∷ others (c.args.first ∷ c.args.others.now) c.args.images.now))
    c.in_ok-joined.ensures.next

pub returns-in-Some-archived_refusal : goal.returns-in-Some-archived_refusal
returns-in-Some-archived_refusal c =
    merge-archived (difference_of c.args.agreement) c.args.images.now c.args.next c.args.first c.args.others.now
    c.in-Some.image.now c.in-Some-archived_refusal.refusal c.in-Some.ensures
    (archived-seen c.args.first c.fields-shared.ensures c.archived_refusal.ensures ∙ c.in-Some-archived_refusal.is)

pub returns-in_err-lookup : goal.returns-in_err-lookup
returns-in_err-lookup c = planned-no_memory _ _ _ _ c.from_residual.result c.from_residual.ensures.1

pub returns-in_err-joined : goal.returns-in_err-joined
returns-in_err-joined c = planned-no_memory _ _ _ _ c.from_residual-in_err-joined.result c.from_residual-in_err-joined.ensures.1
