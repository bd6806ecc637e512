use Rattle.std.proofs.Common.{[], ◌∷◌, true, false, refl, sym, ap, ◌∙◌, subst}
use Rattle.std.specs.Fn.{CalledAt}
use Rattle.base_sequences.specs.Kept.{kept_items}
use Rattle.base_sequences.proofs.KeptLemmas.{filtered-one}
use Rattle.base_sequences.proofs.sequence.Sequence.retain.Goals as goal

pub returns-then-test : goal.returns-then-test
returns-then-test g c =
    filtered-one (CalledAt g.F.FnMut) c.args.test c.test.new.self c.only-item.result true c.args.self.now (c.only-item.result ∷ [])
    (c.only-item.ensures ∙ sym (ap kept_items (sym c.replace.ensures.value ∙ c.in-One.is)) ∙ c.self.view_is)
    (subst (λ b. CalledAt g.F.FnMut c.args.test c.only-item.result b c.test.new.self) c.if-test.true
    (record { shown = _; shows = refl; called = c.test.ensures }))
    refl

pub returns-in-One : goal.returns-in-One
returns-in-One g c =
    filtered-one (CalledAt g.F.FnMut) c.args.test c.test.new.self c.only-item.result false c.args.self.now _
    (c.only-item.ensures ∙ sym (ap kept_items (sym c.replace.ensures.value ∙ c.in-One.is)) ∙ c.self.view_is)
    (subst (λ b. CalledAt g.F.FnMut c.args.test c.only-item.result b c.test.new.self) c.if-test.false
    (record { shown = _; shows = refl; called = c.test.ensures }))
    (ap kept_items c.replace.ensures.after ∙ c.new.ensures.items)
