-- That what is kept is right is one fact: any two proofs of it are equal.
use Rattle.std.proofs.Common.{ℕ, List, [], ◌∷◌, ◌++◌}
use Rattle.std.proofs.Props.{props}
use Rattle.std.specs.Coded.{×_prop, Unit-prop}
use Rattle.version_nodes.proofs.ForestProp.{IsNode-prop}
use Rattle.bug_record.proofs.SoundProp.{IsAscending-prop}
use Rattle.bug_record.specs.Sets.{Each}
use Rattle.bug_record.specs.Words.{Names}
use Rattle.bug_record.specs.declared.command.Refusal.{Refusal}
use Rattle.bug_record.specs.declared.command.Refusal.TheVariants as refusals
use Rattle.bug_record.specs.declared.outcome.Outcome.{Outcome}
use Rattle.bug_record.specs.declared.outcome.Outcome.TheVariants.{Changed, Refused, Stopped}
use Rattle.base_words.specs.Numbers.{IsGoodNumber}
use Rattle.store_contract.specs.Message.{Entry, names_given}
use Rattle.store_contract.specs.Kept.{IsGoodRefusal, IsGoodOutcome, GiveNames, IsGoodKept, Keeping, AreGoodKept}
use Rattle.store_contract.specs.declared.kept.Kept.{Kept}
use Rattle.std.specs.Coded.{Coded-set}
use Rattle.base_faults.specs.declared.store_fault.End.{End}
use Rattle.base_faults.specs.contracts.End as the_end
use Rattle.bug_record.specs.contracts.Refusal as the_refusal

Each-prop : {T : Type 0} (P : T → Type 0) → ((x : T) → IsProp (P x)) → (xs : List T) → IsProp (Each P xs)
Each-prop P h [] = Unit-prop
Each-prop P h (x ∷ xs) = ×_prop (h x) (Each-prop P h xs)

IsGoodNumber-prop : (n : ℕ) → IsProp (IsGoodNumber n)
IsGoodNumber-prop n = hlevel props

IsGoodRefusal-prop : (r : Refusal) → IsProp (IsGoodRefusal r)
IsGoodRefusal-prop (refusals.NoName k) = IsGoodNumber-prop k
IsGoodRefusal-prop (refusals.NoBug n) = IsGoodNumber-prop n
IsGoodRefusal-prop (refusals.Archived n) = IsGoodNumber-prop n
IsGoodRefusal-prop (refusals.NotArchived n) = IsGoodNumber-prop n
IsGoodRefusal-prop (refusals.Differ field n) = IsGoodNumber-prop n
IsGoodRefusal-prop (refusals.NotMerged n) = IsGoodNumber-prop n
IsGoodRefusal-prop (refusals.Merged n) = IsGoodNumber-prop n
IsGoodRefusal-prop (refusals.NameTaken k) = IsGoodNumber-prop k
IsGoodRefusal-prop (refusals.OwnSet n) = IsGoodNumber-prop n
IsGoodRefusal-prop (refusals.NotDone n) = IsGoodNumber-prop n
IsGoodRefusal-prop (refusals.StillFound node) = IsNode-prop node
IsGoodRefusal-prop _ = Unit-prop

IsGoodOutcome-prop : (o : Outcome) → IsProp (IsGoodOutcome o)
IsGoodOutcome-prop (Changed numbers) =
    ×_prop (IsAscending-prop numbers) (Each-prop IsGoodNumber IsGoodNumber-prop numbers)
IsGoodOutcome-prop (Refused refusal) = IsGoodRefusal-prop refusal
IsGoodOutcome-prop Stopped = Unit-prop

End-set : IsSet End
End-set = Coded-set the_end.the_row.coded

Refusal-set : IsSet Refusal
Refusal-set = Coded-set the_refusal.the_row.coded

GiveNames-prop : (names : Names) (entries : List Entry) → IsProp (GiveNames names entries)
GiveNames-prop names [] = Unit-prop
GiveNames-prop names (entry ∷ entries) = hlevel (props, Refusal-set, GiveNames-prop (names ++ names_given entry) entries)

pub IsGoodKept-prop : (k : Kept) → IsProp (IsGoodKept k)
IsGoodKept-prop k = hlevel (props, End-set, Each-prop IsGoodOutcome IsGoodOutcome-prop k.outcomes, GiveNames-prop)

pub AreGoodKept-prop : (kept : Keeping) → IsProp (AreGoodKept kept)
AreGoodKept-prop kept = hlevel (props, IsGoodKept-prop)
