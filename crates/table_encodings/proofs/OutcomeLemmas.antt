-- An outcome is read back from what stands for it.
use Rattle.std.proofs.Common.{◌≡◌, Some, refl}
use Rattle.bug_record.specs.declared.command.Field.TheVariants as fields
use Rattle.bug_record.specs.declared.command.Refusal.{Refusal}
use Rattle.bug_record.specs.declared.command.Refusal.TheVariants as refusals
use Rattle.bug_record.specs.declared.outcome.Outcome.{Outcome}
use Rattle.bug_record.specs.declared.outcome.Outcome.TheVariants.{Changed, Refused, Stopped}
use Rattle.table_encodings.specs.Outcomes.{bare, outcome_kind, outcome_number, outcome_field, outcome_node, outcome_in}

abbrev IsReadBack : Outcome → Type 0
IsReadBack outcome =
    outcome_in (outcome_kind outcome) (outcome_number outcome) (outcome_field outcome) (outcome_node outcome) ≡ Some (bare outcome)

refusal_back : (refusal : Refusal) → IsReadBack (Refused refusal)
refusal_back refusals.Unknown = refl
refusal_back refusals.Malformed = refl
refusal_back refusals.TooLong = refl
refusal_back refusals.BadSeverity = refl
refusal_back refusals.BadTag = refl
refusal_back refusals.BadVersion = refl
refusal_back refusals.BadPackage = refl
refusal_back (refusals.NoName k) = refl
refusal_back (refusals.NoBug n) = refl
refusal_back (refusals.Archived n) = refl
refusal_back (refusals.NotArchived n) = refl
refusal_back (refusals.Differ fields.Package n) = refl
refusal_back (refusals.Differ fields.State n) = refl
refusal_back (refusals.Differ fields.Forwarded n) = refl
refusal_back (refusals.Differ fields.Severity n) = refl
refusal_back (refusals.NotMerged n) = refl
refusal_back (refusals.Merged n) = refl
refusal_back (refusals.NameTaken k) = refl
refusal_back (refusals.OwnSet n) = refl
refusal_back (refusals.NotDone n) = refl
refusal_back (refusals.StillFound node) = refl
refusal_back refusals.Full = refl

pub outcome_back : (outcome : Outcome) → IsReadBack outcome
outcome_back (Changed numbers) = refl
outcome_back (Refused refusal) = refusal_back refusal
outcome_back Stopped = refl
