use Rattle.table_schema.proofs.Imports.{◌≡◌, Option, Some, None, Err, sym, subst, subst₂, ◌∙◌, Node, node_at, IsRead}
use Rattle.table_schema.proofs.NodeTexts.{reads_back}
use Rattle.table_schema.proofs.cells.node_of.Goals as goal

pub returns-in-Ok-clause-value : goal.returns-in-Ok-clause-value
returns-in-Ok-clause-value c v is source version =
    let there : node_at c.args.source.now c.args.version.now ≡ Some v = subst₂ (λ s w. node_at s w ≡ Some v) (sym source) (sym version) (reads_back v is) in
    let e : Some c.in-Ok.node ≡ Some v = sym c.in-Ok.ensures ∙ there in cc

pub returns-in-Err-BadNode-clause-memory : goal.returns-in-Err-BadNode-clause-memory
returns-in-Err-BadNode-clause-memory c v is source version =
    let there : node_at c.args.source.now c.args.version.now ≡ Some v = subst₂ (λ s w. node_at s w ≡ Some v) (sym source) (sym version) (reads_back v is) in
    let none : node_at c.args.source.now c.args.version.now ≡ None = subst (λ f. IsRead (node_at c.args.source.now c.args.version.now) (Err f)) c.in-Err-BadNode.field-0-is c.in-Err-BadNode.ensures in
    absurd (let e : ◌≡◌ {A = Option Node} None (Some v) = sym none ∙ there in cc)
