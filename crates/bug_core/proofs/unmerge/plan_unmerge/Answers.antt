use Rattle.std.proofs.Common.{◌≡◌, false, true, [], ◌∷◌, ◌++◌, List, length, refl, sym, ap, ◌∙◌, subst, arith}
use Rattle.std.specs.Prelude.{filter, ◌==◌}
use Rattle.std.proofs.lemmas.Bool.{false≢true, eqb-true}
use Rattle.std.proofs.lemmas.Result.{IfOk-from_err}
use Rattle.bug_record.specs.declared.bug.Member.{Member}
use Rattle.bug_record.specs.Images.{AreApart}
use Rattle.bug_core.specs.Joins.{is_part}
use Rattle.bug_core.specs.Others.{others}
use Rattle.bug_core.proofs.UnmergeLemmas.{part_of, parts, unmerge-no_bug, unmerge-archived, unmerge-alone, unmerge-done}
use Rattle.bug_core.proofs.UnmergeLemmas.{parts-apart}
use Rattle.bug_core.proofs.PlanLemmas.{planned-no_memory, archived-seen}
use Rattle.bug_core.proofs.unmerge.plan_unmerge.Goals as goal

pub returns-in_default-clause-planned : goal.returns-in_default-clause-planned
returns-in_default-clause-planned c = unmerge-no_bug c.args.images.now c.args.next c.args.number c.in_default.ensures

-- a list with no element
empty : (ms : List Member) → (length ms == 0) ≡ true → ms ≡ []
empty [] e = refl
empty (m ∷ ms) e = let none : length (m ∷ ms) ≡ 0 = eqb-true (length (m ∷ ms)) 0 e in absurd (omega arith)

pub returns-then-is_empty-clause-planned : goal.returns-then-is_empty-clause-planned
returns-then-is_empty-clause-planned c =
    let rest : c.in_ok-rest.rest ≡ filter (is_part false c.args.number) c.in-Some.image.now.members =
    c.in_ok-rest.ensures ∙ ap (filter (is_part false c.args.number)) c.as_slice-members.ensures in
    unmerge-alone c.args.images.now c.args.next c.args.number c.in-Some.image.now c.in-Some.ensures
    (archived-seen c.args.number c.fields.ensures c.archived_refusal.ensures ∙ c.in_default-archived_refusal.is)
    (sym (c.as_slice.ensures ∙ rest) ∙ empty c.as_slice.result.now (sym c.is_empty.ensures ∙ c.if-is_empty.true))

-- the rest has a member
some_left : (c : goal.In_ok-part_set) → (part_of c.in-Some.image.now false c.args.number).members ≡ [] → ⊥
some_left c none =
    let rest : c.in_ok-rest.rest ≡ filter (is_part false c.args.number) c.in-Some.image.now.members =
    c.in_ok-rest.ensures ∙ ap (filter (is_part false c.args.number)) c.as_slice-members.ensures in
    false≢true (sym c.if-is_empty.false ∙ c.is_empty.ensures
    ∙ ap (λ (ms : List Member). length ms == 0) (c.as_slice.ensures ∙ rest ∙ none))

-- the images of the change
images : (c : goal.In_ok-part_set)
    → c.in_ok-part_set.field-0.images ≡ parts c.in-Some.image.now c.args.number ++ others (c.args.number ∷ []) c.args.images.now
images c =
    let rest : c.in_ok-rest.rest ≡ filter (is_part false c.args.number) c.in-Some.image.now.members =
    c.in_ok-rest.ensures ∙ ap (filter (is_part false c.args.number)) c.as_slice-members.ensures in
    let own : filter (is_part true c.args.number) c.as_slice-members.result.now
    ≡ filter (is_part true c.args.number) c.in-Some.image.now.members =
    ap (filter (is_part true c.args.number)) c.as_slice-members.ensures in
    c.in_ok-part_set.ensures.images
    ∙ (λ j. record { shared = c.in-Some.image.now.shared; members = own j } ∷ record
    { shared = c.in-Some.image.now.shared; members = rest j } ∷ others (c.args.number ∷ []) c.args.images.now)

pub returns-clause-planned : goal.returns-clause-planned
returns-clause-planned c =
    unmerge-done c.args.images.now c.args.next c.args.number c.in-Some.image.now c.requires.apart c.in-Some.ensures
    (archived-seen c.args.number c.fields.ensures c.archived_refusal.ensures ∙ c.in_default-archived_refusal.is)
    (some_left c) c.in_ok-part_set.field-0 (images c) c.in_ok-part_set.ensures.next

pub returns-clause-apart : goal.returns-clause-apart
returns-clause-apart c =
    subst AreApart (sym (images c))
    (parts-apart c.args.images.now c.args.number c.in-Some.image.now c.requires.apart c.in-Some.ensures (some_left c))

pub returns-in-Some-archived_refusal-clause-planned : goal.returns-in-Some-archived_refusal-clause-planned
returns-in-Some-archived_refusal-clause-planned c =
    unmerge-archived c.args.images.now c.args.next c.args.number c.in-Some.image.now c.in-Some-archived_refusal.refusal
    c.in-Some.ensures (archived-seen c.args.number c.fields.ensures c.archived_refusal.ensures ∙ c.in-Some-archived_refusal.is)

pub returns-in_err-rest-clause-planned : goal.returns-in_err-rest-clause-planned
returns-in_err-rest-clause-planned c = planned-no_memory _ _ _ _ c.from_residual.result c.from_residual.ensures.1

pub returns-in_err-part_set-clause-planned : goal.returns-in_err-part_set-clause-planned
returns-in_err-part_set-clause-planned c = planned-no_memory _ _ _ _ c.from_residual-in_err-part_set.result c.from_residual-in_err-part_set.ensures.1

pub returns-in_default-clause-apart : goal.returns-in_default-clause-apart
returns-in_default-clause-apart c = tt

pub returns-then-is_empty-clause-apart : goal.returns-then-is_empty-clause-apart
returns-then-is_empty-clause-apart c = tt

pub returns-in-Some-archived_refusal-clause-apart : goal.returns-in-Some-archived_refusal-clause-apart
returns-in-Some-archived_refusal-clause-apart c = tt

pub returns-in_err-rest-clause-apart : goal.returns-in_err-rest-clause-apart
returns-in_err-rest-clause-apart c = IfOk-from_err _ _ c.from_residual.ensures.0

pub returns-in_err-part_set-clause-apart : goal.returns-in_err-part_set-clause-apart
returns-in_err-part_set-clause-apart c = IfOk-from_err _ _ c.from_residual-in_err-part_set.ensures.0
