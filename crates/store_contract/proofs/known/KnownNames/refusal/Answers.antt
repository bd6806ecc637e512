use Rattle.std.proofs.lemmas.Grind.{common_steps}
use Rattle.std.proofs.Common.{arith}
use Rattle.std.proofs.Common.{rules, ◌||◌, refl, sym, ap, ◌∙◌}
use Rattle.std.specs.Prelude.{is_some}
use Rattle.bug_record.specs.Clones.{is_taken}
use Rattle.store_contract.proofs.KnownLemmas.{find-next}
use Rattle.store_contract.proofs.known.KnownNames.refusal.Goals as goal

pub loop-name-preserved : goal.loop-name-preserved
loop-name-preserved c =
    find-next (is_taken c.args.self.now.names c.args.names.now) c.args.names.now c.loop-name.name-index _ c.loop-name-test.true
    refl
    (λ i. (ap is_some (sym c.number_of.ensures) ∙ (sym c.is_some.ensures ∙ c.if-is_some.false)) i
    || (sym (c.in_ok-repeated.ensures _) ∙ (sym c.contains.ensures ∙ c.if-contains.false)) i)
    ∙ c.loop-name.invariant

pub returns-in_err-repeated : goal.returns-in_err-repeated
returns-in_err-repeated c = search rules

pub returns-then-is_some : goal.returns-then-is_some
returns-then-is_some c = grind (arith, common_steps)
