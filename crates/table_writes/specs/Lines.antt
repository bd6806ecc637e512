-- The outcome of a line, and the edits that keep it.
use Rattle.std.specs.Prelude.{ℕ, ◌≡◌, List, length}
use Rattle.bug_record.specs.declared.outcome.Outcome.{Outcome}
use Rattle.store_contract.specs.Kept.{IsGoodOutcome, IsOfMessage}
use Rattle.table_content.specs.Content.{Content}
use Rattle.table_content.specs.Edits.{edited_all}
use Rattle.table_content.specs.Free.{AreFree}
use Rattle.table_content.specs.KeptOutcomes.{with_kept}
use Rattle.table_content.specs.Kept.{IsKeptContent}
use Rattle.table_content.specs.View.{keeping_in}
use Rattle.table_content.specs.declared.edit.Edit.{Edit}

-- the outcome may be kept in what the tables say
pub record IsLine (id sender message : List ℕ) (outcome : Outcome) (c : Content) : Type 0 where
  pub kept : IsKeptContent c
  pub same : IsOfMessage sender message (keeping_in c id)
  pub good : IsGoodOutcome outcome

-- the edits keep the outcome at this place, where it is the next one
pub record AreEditsOf (id sender message : List ℕ) (place : ℕ) (outcome : Outcome) (edits : List Edit) : Type 0 where
  pub put : (c : Content) → IsLine id sender message outcome c → place ≡ length (c.outcomes id) → edited_all edits c ≡ with_kept id sender message outcome c
  pub free : (c : Content) → IsLine id sender message outcome c → place ≡ length (c.outcomes id) → AreFree edits c
