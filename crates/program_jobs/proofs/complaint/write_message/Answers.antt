use Rattle.std.proofs.Common.{◌++◌, ◌∙◌, ℕ, List, Option, ap, sym, subst}
use Rattle.program_jobs.specs.CauseText.{number_and}
use Rattle.program_jobs.specs.Endings.{IsWritten}
use Rattle.program_jobs.proofs.complaint.write_message.Goals as goal

pub returns-in-Some : goal.returns-in-Some
returns-in-Some g c =
    subst (λ (text : List ℕ). IsWritten text c.write_numbered.result (g.E.Write.contents c.args.errors.now)
    (g.E.Write.contents c.write_numbered.new.errors))
    (ap (λ (n : Option ℕ). c.parts-parts.result.before.now ++ number_and n c.parts-parts.result.after.now) (sym c.in-Some.is)
    ∙ c.parts-parts.ensures) c.write_numbered.ensures

pub returns-in-None : goal.returns-in-None
returns-in-None g c =
    subst (λ (text : List ℕ). IsWritten text c.write_both.result (g.E.Write.contents c.args.errors.now)
    (g.E.Write.contents c.write_both.new.errors))
    (ap (λ (n : Option ℕ). c.parts-parts.result.before.now ++ number_and n c.parts-parts.result.after.now) (sym c.in-None.is)
    ∙ c.parts-parts.ensures) c.write_both.ensures
