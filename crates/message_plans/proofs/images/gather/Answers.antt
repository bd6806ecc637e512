use Rattle.std.proofs.Common.{rules, ◌≡◌, true, false, [], ◌∷◌, refl, sym, subst, ◌∙◌}
use Rattle.std.specs.BTreeSet.{contains}
use Rattle.std.specs.Ordering.{nat_cmp}
use Rattle.bug_record.specs.Images.{AreApart}
use Rattle.store_contract.proofs.HoldsLemmas.{asks_none, asks_weaker}
use Rattle.message_plans.specs.Images.{meets, Gather}
use Rattle.message_plans.proofs.GatherLemmas.{gather-there, gather-none, gather-met, gather-one, apart-more, meets-listed}
use Rattle.message_plans.proofs.images.gather.Goals as goal

pub returns-then-contains-clause-answer : goal.returns-then-contains-clause-answer
returns-then-contains-clause-answer g c =
    let there : contains nat_cmp c.args.bugs.now c.args.number ≡ true = cc in
    asks_none _ _ _ _ (
      gather-there (g.S.Records.desk c.args.store.now) c.args.images.now c.args.number
          (sym (c.requires.bugs c.args.number) ∙ there),
      refl,
    )

pub returns-then-meets-clause-answer : goal.returns-then-meets-clause-answer
returns-then-meets-clause-answer g c =
    let a = rw c.in-Some.is at c.in_ok-image.ensures.answer in
    let absent : contains nat_cmp c.args.bugs.now c.args.number ≡ false = cc in
    let shared : meets (contains nat_cmp c.args.bugs.now) c.in-Some.image.members ≡ true = cc in
    asks_weaker a (λ p. (
      gather-met (g.S.Records.desk c.args.store.now) c.args.images.now c.args.number c.in-Some.image
          (sym (c.requires.bugs c.args.number) ∙ absent) p.0
          (sym (meets-listed _ c.args.images.now c.requires.bugs c.in-Some.image.members) ∙ shared),
      p.1,
    ))

pub returns-in_default-clause-answer : goal.returns-in_default-clause-answer
returns-in_default-clause-answer g c =
    let a = rw c.in_default.is at c.in_ok-image.ensures.answer in
    let absent : contains nat_cmp c.args.bugs.now c.args.number ≡ false = cc in
    asks_weaker a (λ p. (
      gather-none (g.S.Records.desk c.args.store.now) c.args.images.now c.args.number
          (sym (c.requires.bugs c.args.number) ∙ absent) p.0,
      p.1,
    ))

pub returns-clause-answer : goal.returns-clause-answer
returns-clause-answer g c =
    let d = g.S.Records.desk c.args.store.now in
    let a = rw c.in-Some.is at c.in_ok-image.ensures.answer in
    let absent : contains nat_cmp c.args.bugs.now c.args.number ≡ false = cc in
    asks_weaker a (λ p. (
      subst (λ images. Gather d (c.args.number ∷ []) c.args.images.now images) (sym c.in_ok-add_image.ensures.images)
          (gather-one d c.args.images.now c.args.number c.in-Some.image (sym (c.requires.bugs c.args.number) ∙ absent) p.0),
      p.1,
    ))

pub returns-clause-apart : goal.returns-clause-apart
returns-clause-apart g c =
    let apart : meets (contains nat_cmp c.args.bugs.now) c.in-Some.image.members ≡ false = cc in
    subst AreApart (sym c.in_ok-add_image.ensures.images)
    (apart-more c.args.images.now c.in-Some.image c.requires.apart
    (sym (meets-listed _ c.args.images.now c.requires.bugs c.in-Some.image.members) ∙ apart))

pub returns-in_err-image-clause-count : goal.returns-in_err-image-clause-count
returns-in_err-image-clause-count g c = search rules
