-- What the steps of a branch come to together.
use Rattle.std.proofs.Common.{◌≡◌, List, Result, Ok, Err, IfOk, sym, ap, subst, ◌∙◌}
use Rattle.std.specs.Prelude.{⊤}
use Rattle.sqlite.specs.State.{State}
use Rattle.version_nodes.specs.Nodes.{Node}
use Rattle.version_nodes.specs.Trees.{Ancestry}
use Rattle.base_faults.specs.declared.store_fault.StoreFault.{StoreFault}
use Rattle.table_content.specs.Branches.{with_nodes}
use Rattle.table_content.specs.Edits.{edited_all}
use Rattle.table_content.specs.Free.{AreFree}
use Rattle.table_content.specs.Kept.{IsKeptContent}
use Rattle.table_content.specs.declared.edit.Edit.{Edit}
use Rattle.table_schema.specs.Steps.{Acts, PlaysAll, Reads}
use Rattle.table_schema.proofs.StepLemmas.{acts_then}
use Rattle.table_nodes.specs.Grown.{IsGrown}
use Rattle.table_writes.specs.Steps.{Makes}

-- what holds of an answer that says more
pub says : {A E : Type 0} (r : Result A E) (P Q : A → Type 0) → ((a : A) → P a → Q a) → IfOk r P → IfOk r Q
says (Ok a) P Q more h = more a h
says (Err e) P Q more h = tt

module _ (u : Ancestry) (changed : List Node) (edits : List Edit) (old mid new : State) (r : Result (Unit {0}) StoreFault) where
  -- the edits are planned, and then made
  pub planned_and_made : Reads (λ c es. IsKeptContent c → IsGrown c.nodes u changed → Makes u es c) old mid (Ok edits) → PlaysAll edits mid new r
      → Acts old new r (λ c. IsKeptContent c × IsGrown c.nodes u changed) (λ c d _. IsKeptContent c → IsGrown c.nodes u changed → d ≡ with_nodes u c)
  planned_and_made one two =
      acts_then old mid new edits (λ _. ⊤) (AreFree edits) (λ c. IsKeptContent c × IsGrown c.nodes u changed)
      (λ c d es. (d ≡ c) × (IsKeptContent c → IsGrown c.nodes u changed → Makes u es c)) (λ d e _. e ≡ edited_all edits d)
      (λ c d _. IsKeptContent c → IsGrown c.nodes u changed → d ≡ with_nodes u c) r
      (λ c fits. tt) (λ c d p fits. subst (AreFree edits) (sym p.0) (p.1 fits.0 fits.1).free)
      (λ c d e _ p q kept grown. q ∙ ap (edited_all edits) p.0 ∙ (p.1 kept grown).made) one two
