use Rattle.table_schema.proofs.Exports.{◌≡◌, ℕ, Option, Some, None, Err, sym, ◌∙◌, rules}
use Rattle.table_nodes.proofs.meta.next_in.Goals as goal

pub returns-in_err-next-clause-memory : goal.returns-in_err-next-clause-memory
returns-in_err-next-clause-memory c n is =
    let told : c.from_residual.result ≡ Err c.in_err-next.field-0.0 = search rules in
    rw told (c.in_err-next.ensures.memory (Some n) is)

pub returns-in-Some-clause-value : goal.returns-in-Some-clause-value
returns-in-Some-clause-value c n is = let e : ◌≡◌ {A = Option ℕ} (Some c.in-Some.next) (Some n) = sym c.in-Some.is ∙ c.in_ok-next.ensures.value (Some n) is in cc

pub returns-in-None-clause-memory : goal.returns-in-None-clause-memory
returns-in-None-clause-memory c n is = absurd (let none : ◌≡◌ {A = Option ℕ} None (Some n) = sym c.in-None.is ∙ c.in_ok-next.ensures.value (Some n) is in cc)
