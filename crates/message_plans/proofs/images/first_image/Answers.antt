use Rattle.std.proofs.Common.{[], ◌∷◌, refl, sym, subst}
use Rattle.store_contract.proofs.HoldsLemmas.{asks_weaker}
use Rattle.message_plans.specs.Images.{Gather}
use Rattle.message_plans.proofs.GatherLemmas.{gather-one}
use Rattle.message_plans.proofs.images.first_image.Goals as goal

pub returns-in-Some-clause-answer : goal.returns-in-Some-clause-answer
returns-in-Some-clause-answer g c =
    let d = g.S.Records.desk c.args.store.now in
    let a = rw c.in-Some.is at c.in_ok-image.ensures.answer in
    asks_weaker a (λ p. (
      subst (λ images. Gather d (c.args.number ∷ []) [] images) (sym c.one.ensures)
          (gather-one d [] c.args.number c.in-Some.image refl p.0),
      p.1,
    ))
