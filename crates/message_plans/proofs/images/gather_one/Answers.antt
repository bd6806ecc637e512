use Rattle.std.proofs.Common.{◌≡◌, true, false, [], ◌∷◌, refl, sym, subst, ◌∙◌}
use Rattle.bug_record.specs.Images.{AreApart}
use Rattle.store_contract.proofs.HoldsLemmas.{asks_none, asks_weaker}
use Rattle.message_plans.specs.Images.{is_gathered, Gather}
use Rattle.message_plans.proofs.GatherLemmas.{gather-there, gather-none, gather-met, gather-one, apart-more, meets-equal}
use Rattle.message_plans.proofs.images.gather_one.Goals as goal

pub returns-then-is_gathered-clause-answer : goal.returns-then-is_gathered-clause-answer
returns-then-is_gathered-clause-answer g c =
    let there : is_gathered c.args.images.now c.args.number ≡ true = cc in
    asks_none _ _ _ _ (
      gather-there (g.S.Records.desk c.args.store.now) c.args.images.now c.args.number there,
      refl,
    )

pub returns-in_default-clause-answer : goal.returns-in_default-clause-answer
returns-in_default-clause-answer g c =
    let a = rw c.in_default.is at c.in_ok-other.ensures.answer in
    let absent : is_gathered c.args.images.now c.args.number ≡ false = cc in
    asks_weaker a (λ p. (
      gather-none (g.S.Records.desk c.args.store.now) c.args.images.now c.args.number absent p.0,
      p.1,
    ))

pub returns-then-branch-clause-answer : goal.returns-then-branch-clause-answer
returns-then-branch-clause-answer g c =
    let a = rw c.in-Some.is at c.in_ok-other.ensures.answer in
    let absent : is_gathered c.args.images.now c.args.number ≡ false = cc in
    let found : c.in_ok-share_a_bug.field-0 ≡ true = cc in
    let shared =
    sym (meets-equal c.args.images.now _ c.in-Some.other.members _ c.in_ok-share_a_bug.field-0 c.as_slice-2.ensures
    c.as_slice-3.ensures c.in_ok-share_a_bug.ensures) ∙ found in
    asks_weaker a (λ p. (
      gather-met (g.S.Records.desk c.args.store.now) c.args.images.now c.args.number c.in-Some.other
          absent p.0 shared,
      p.1,
    ))

pub returns-clause-answer : goal.returns-clause-answer
returns-clause-answer g c =
    let d = g.S.Records.desk c.args.store.now in
    let a = rw c.in-Some.is at c.in_ok-other.ensures.answer in
    let absent : is_gathered c.args.images.now c.args.number ≡ false = cc in
    asks_weaker a (λ p. (
      subst (λ images. Gather d (c.args.number ∷ []) c.args.images.now images) (sym c.in_ok-push.ensures.ok)
          (gather-one d c.args.images.now c.args.number c.in-Some.other absent p.0),
      p.1,
    ))

pub returns-clause-apart : goal.returns-clause-apart
returns-clause-apart g c =
    let none : c.in_ok-share_a_bug.field-0 ≡ false = cc in
    let apart =
    sym (meets-equal c.args.images.now _ c.in-Some.other.members _ c.in_ok-share_a_bug.field-0 c.as_slice-2.ensures
    c.as_slice-3.ensures c.in_ok-share_a_bug.ensures) ∙ none in
    subst AreApart (sym c.in_ok-push.ensures.ok) (apart-more c.args.images.now c.in-Some.other c.requires apart)
