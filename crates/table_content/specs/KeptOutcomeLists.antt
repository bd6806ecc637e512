-- The edits of an outcome that is kept, one after another.
use Rattle.std.specs.Prelude.{ℕ, ◌==◌, List, [], ◌∷◌, ◌++◌, map, if◌then◌else◌}
use Rattle.bug_record.specs.declared.outcome.Outcome.{Outcome}
use Rattle.table_encodings.specs.Outcomes.{numbers_of}
use Rattle.table_content.specs.declared.edit.Edit.{Edit}
use Rattle.table_content.specs.declared.edit.Edit.TheVariants.{PutMessage, PutOutcome, PutOutcomeNumber}

abbrev pub number_puts : List ℕ → ℕ → List ℕ → List Edit
number_puts id place numbers = map (PutOutcomeNumber id place) numbers

-- a message is put with its first outcome
abbrev pub message_puts : List ℕ → List ℕ → List ℕ → ℕ → List Edit
message_puts id sender message place = if place == 0 then PutMessage id sender message ∷ [] else []

abbrev pub outcome_puts : List ℕ → ℕ → Outcome → List Edit
outcome_puts id place outcome = PutOutcome id place outcome ∷ number_puts id place (numbers_of outcome)

abbrev pub keep_puts : List ℕ → List ℕ → List ℕ → ℕ → Outcome → List Edit
keep_puts id sender message place outcome = message_puts id sender message place ++ outcome_puts id place outcome
