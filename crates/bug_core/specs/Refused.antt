-- Why a plan refuses.
use Rattle.std.specs.Prelude.{◌≡◌, Result, Ok, Err, ⊤}
use Rattle.debver.specs.Names.{IsName}
use Rattle.bug_record.specs.Desk.{Desk}
use Rattle.bug_record.specs.declared.bug.SetImage.{SetImage}
use Rattle.bug_record.specs.declared.command.Change.{Change}
use Rattle.bug_record.specs.declared.command.PlanFault.{PlanFault}
use Rattle.bug_record.specs.declared.command.PlanFault.TheVariants.{Refused, Memory}
use Rattle.bug_record.specs.declared.command.Refusal.{Refusal}
use Rattle.bug_record.specs.declared.command.Refusal.TheVariants.{NoBug, Archived, NotArchived, Differ, NotMerged}
use Rattle.bug_record.specs.declared.command.Refusal.TheVariants.{Merged, OwnSet, NotDone, StillFound, Full}

-- The answer is a refusal exactly where the step is one, and the same; out of memory is always
-- allowed.
abbrev pub IsRefusedAs : Result Desk Refusal → Result Change PlanFault → Type 0
IsRefusedAs (Ok d) (Ok change) = Unit {0}
IsRefusedAs (Ok d) (Err (Refused refusal)) = ⊥
IsRefusedAs (Ok d) (Err Memory) = Unit {0}
IsRefusedAs (Err r) (Ok change) = ⊥
IsRefusedAs (Err r) (Err (Refused refusal)) = r ≡ refusal
IsRefusedAs (Err r) (Err Memory) = Unit {0}

-- The refusals of a plan: a bug is not there, is archived and may not be, or is to be taken out of
-- the archive and is not in it; one that is to be merged differs; one is merged with no other; one
-- that is to be copied is merged with another; one that is to block another is in that one's set;
-- one that is to be archived is open, or still found; or too few numbers are left.
abbrev pub IsRefusalOfPlan : Refusal → Type 0
IsRefusalOfPlan (NoBug n) = ⊤
IsRefusalOfPlan (Archived n) = ⊤
IsRefusalOfPlan (NotArchived n) = ⊤
IsRefusalOfPlan (Differ field n) = ⊤
IsRefusalOfPlan (NotMerged n) = ⊤
IsRefusalOfPlan (Merged n) = ⊤
IsRefusalOfPlan (OwnSet n) = ⊤
IsRefusalOfPlan (NotDone n) = ⊤
IsRefusalOfPlan (StillFound node) = ⊤
IsRefusalOfPlan Full = ⊤
IsRefusalOfPlan refusal = ⊥

abbrev pub IsFaultOfPlan : PlanFault → Type 0
IsFaultOfPlan Memory = ⊤
IsFaultOfPlan (Refused refusal) = IsRefusalOfPlan refusal

-- the image's package is a package name
abbrev pub HasName : SetImage → Type 0
HasName i = IsName i.shared.package
