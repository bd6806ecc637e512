use Rattle.std.proofs.Common.{length, sym, ap, ◌∙◌}
use Rattle.std.specs.Prelude.{nat_lt, Some, None, if◌then◌else◌}
use Rattle.std.proofs.lemmas.Bool.{eqb-true}
use Rattle.version_nodes.specs.declared.statuses.MarkKind.TheVariants.{Found, Fixed}
use Rattle.ancestry.proofs.HeightLemmas.{kind-found, kind-above}
use Rattle.ancestry.proofs.indexed.IndexedLine.first_kind.Goals as goal

pub returns-then-is_empty : goal.returns-then-is_empty
returns-then-is_empty c =
    c.kind_of.ensures ∙ ap (λ b. if b then Some Found else None) c.any_above.ensures
    ∙ sym (kind-found c.args.found.now c.args.fixed.now c.args.self.now (eqb-true (length c.args.fixed.now) 0 (sym c.if-is_empty.ensures)))

pub returns : goal.returns
returns c =
    c.kind_of-2.ensures
    ∙ ap (λ b. if b then Some Fixed else if nat_lt 0 c.greatest_height-highest.result then Some Found else None) c.any_above-2.ensures
    ∙ sym (kind-above c.args.found.now c.args.fixed.now c.args.self.now c.greatest_height-highest.result c.greatest_height-highest.ensures)
