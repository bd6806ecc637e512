-- What an outcome that is kept makes of a content.
-- This project's own rule.
use Rattle.std.specs.Prelude.{ℕ, List, [], ◌∷◌, ◌++◌, length, Option, Some, None}
use Rattle.base_words.specs.Texts.{IfGiven}
use Rattle.bug_record.specs.declared.command.Change.{Change}
use Rattle.bug_record.specs.declared.outcome.Outcome.{Outcome}
use Rattle.store_contract.specs.Kept.{IsGoodOutcome, IsOfMessage}
use Rattle.table_content.specs.Changes.{changed, FitsContent}
use Rattle.table_content.specs.Content.{Content}
use Rattle.table_content.specs.Edits.{put_at, put_of}
use Rattle.table_encodings.specs.Outcomes.{bare, numbers_of}
use Rattle.table_content.specs.View.{keeping_in}

-- of the id this message is known, and the outcome stands behind those of the id, with its numbers
abbrev pub with_kept : List ℕ → List ℕ → List ℕ → Outcome → Content → Content
with_kept id sender message outcome c = record c {
  messages = put_of id (Some (record { from = sender; message = message })) c.messages;
  outcomes = put_of id (c.outcomes id ++ record { place = length (c.outcomes id); outcome = bare outcome } ∷ []) c.outcomes;
  outcome_numbers = put_of id (put_at (length (c.outcomes id)) (numbers_of outcome) (c.outcome_numbers id)) c.outcome_numbers;
}

-- the content after a change, if there is one
abbrev pub changed_by : Option Change → Content → Content
changed_by None c = c
changed_by (Some change) c = changed c change

-- the change is made, if there is one, and the outcome is kept
abbrev pub kept_after : List ℕ → List ℕ → List ℕ → Outcome → Option Change → Content → Content
kept_after id sender message outcome change c = with_kept id sender message outcome (changed_by change c)

-- The outcome may be kept with this change: the change fits, the id is not known or with this
-- message, and the outcome is one that may be kept.
pub record MayBePut (id sender message : List ℕ) (outcome : Outcome) (change : Option Change) (c : Content) : Type 0 where
  pub fits : IfGiven (FitsContent c) change
  pub same : IsOfMessage sender message (keeping_in c id)
  pub good : IsGoodOutcome outcome
