-- The numbers, and the node, that stand for an outcome in the tables: its kind, and what a refusal
-- says beside its kind.
-- The numbers of an accepted line stand by themselves.
-- This project's own rule.
use Rattle.std.specs.Prelude.{ℕ, ◌==◌, List, [], Option, Some, None, option_map, if◌then◌else◌}
use Rattle.std.specs.Option.{option_or, option_and_then}
use Rattle.version_nodes.specs.Nodes.{Node}
use Rattle.bug_record.specs.declared.command.Field.{Field}
use Rattle.bug_record.specs.declared.command.Field.TheVariants as fields
use Rattle.bug_record.specs.declared.command.Refusal.{Refusal}
use Rattle.bug_record.specs.declared.command.Refusal.TheVariants as refusals
use Rattle.bug_record.specs.declared.outcome.Outcome.{Outcome}
use Rattle.bug_record.specs.declared.outcome.Outcome.TheVariants.{Changed, Refused, Stopped}

-- the outcome without the numbers of an accepted line
abbrev pub bare : Outcome → Outcome
bare (Changed numbers) = Changed []
bare (Refused refusal) = Refused refusal
bare Stopped = Stopped

-- the numbers of an accepted line
abbrev pub numbers_of : Outcome → List ℕ
numbers_of (Changed numbers) = numbers
numbers_of (Refused refusal) = []
numbers_of Stopped = []

-- the outcome, with these numbers where it is that of an accepted line
abbrev pub numbered : List ℕ → Outcome → Outcome
numbered numbers (Changed none) = Changed numbers
numbered numbers (Refused refusal) = Refused refusal
numbered numbers Stopped = Stopped

-- ---- kinds

-- refusals have the numbers 1 to 19, in the order in which their causes are tested
abbrev pub refusal_kind : Refusal → ℕ
refusal_kind refusals.Unknown = 1
refusal_kind refusals.Malformed = 2
refusal_kind refusals.TooLong = 3
refusal_kind refusals.BadSeverity = 4
refusal_kind refusals.BadTag = 5
refusal_kind refusals.BadVersion = 6
refusal_kind refusals.BadPackage = 7
refusal_kind (refusals.NoName k) = 8
refusal_kind (refusals.NoBug n) = 9
refusal_kind (refusals.Archived n) = 10
refusal_kind (refusals.NotArchived n) = 11
refusal_kind (refusals.Differ field n) = 12
refusal_kind (refusals.NotMerged n) = 13
refusal_kind (refusals.Merged n) = 14
refusal_kind (refusals.NameTaken k) = 15
refusal_kind (refusals.OwnSet n) = 16
refusal_kind (refusals.NotDone n) = 17
refusal_kind (refusals.StillFound node) = 18
refusal_kind refusals.Full = 19

-- an accepted line is 0, and one that ends the message 20
abbrev pub outcome_kind : Outcome → ℕ
outcome_kind (Changed numbers) = 0
outcome_kind (Refused refusal) = refusal_kind refusal
outcome_kind Stopped = 20

-- ---- what a refusal says beside its kind

-- the bug or the name of a refusal
abbrev pub refusal_number : Refusal → Option ℕ
refusal_number (refusals.NoName k) = Some k
refusal_number (refusals.NoBug n) = Some n
refusal_number (refusals.Archived n) = Some n
refusal_number (refusals.NotArchived n) = Some n
refusal_number (refusals.Differ field n) = Some n
refusal_number (refusals.NotMerged n) = Some n
refusal_number (refusals.Merged n) = Some n
refusal_number (refusals.NameTaken k) = Some k
refusal_number (refusals.OwnSet n) = Some n
refusal_number (refusals.NotDone n) = Some n
refusal_number refusal = None

abbrev pub outcome_number : Outcome → Option ℕ
outcome_number (Refused refusal) = refusal_number refusal
outcome_number outcome = None

-- a field that differs: 0 package, 1 state, 2 forwarded, 3 severity
abbrev pub field_number : Field → ℕ
field_number fields.Package = 0
field_number fields.State = 1
field_number fields.Forwarded = 2
field_number fields.Severity = 3

abbrev pub field_in : ℕ → Option Field
field_in number =
    if number == 0 then Some fields.Package
    else if number == 1 then Some fields.State
    else if number == 2 then Some fields.Forwarded
    else if number == 3 then Some fields.Severity
    else None

abbrev pub outcome_field : Outcome → Option ℕ
outcome_field (Refused (refusals.Differ field n)) = Some (field_number field)
outcome_field outcome = None

-- the node at which a bug is still found
abbrev pub outcome_node : Outcome → Option Node
outcome_node (Refused (refusals.StillFound node)) = Some node
outcome_node outcome = None

-- ---- and back

-- the refusal of this kind that says no more
abbrev pub plain_refusal : ℕ → Option Refusal
plain_refusal kind =
    if kind == 1 then Some refusals.Unknown
    else if kind == 2 then Some refusals.Malformed
    else if kind == 3 then Some refusals.TooLong
    else if kind == 4 then Some refusals.BadSeverity
    else if kind == 5 then Some refusals.BadTag
    else if kind == 6 then Some refusals.BadVersion
    else if kind == 7 then Some refusals.BadPackage
    else if kind == 19 then Some refusals.Full
    else None

-- the refusal of this kind that has a number and says no more
abbrev pub numbered_refusal : ℕ → ℕ → Option Refusal
numbered_refusal kind n =
    if kind == 8 then Some (refusals.NoName n)
    else if kind == 9 then Some (refusals.NoBug n)
    else if kind == 10 then Some (refusals.Archived n)
    else if kind == 11 then Some (refusals.NotArchived n)
    else if kind == 13 then Some (refusals.NotMerged n)
    else if kind == 14 then Some (refusals.Merged n)
    else if kind == 15 then Some (refusals.NameTaken n)
    else if kind == 16 then Some (refusals.OwnSet n)
    else if kind == 17 then Some (refusals.NotDone n)
    else None

-- that two bugs differ in a field
abbrev pub differing : Option ℕ → Option ℕ → Option Refusal
differing number field = option_and_then (λ n. option_map (λ f. refusals.Differ f n) (option_and_then field_in field)) number

abbrev pub refusal_in : ℕ → Option ℕ → Option ℕ → Option Node → Option Refusal
refusal_in kind number field node =
    if kind == 12 then differing number field
    else if kind == 18 then option_map refusals.StillFound node
    else option_or (plain_refusal kind) (option_and_then (numbered_refusal kind) number)

-- the outcome of a kind, a number, a field and a node, if they are one's; an accepted line has no
-- numbers yet
abbrev pub outcome_in : ℕ → Option ℕ → Option ℕ → Option Node → Option Outcome
outcome_in kind number field node =
    if kind == 0 then Some (Changed [])
    else if kind == 20 then Some Stopped
    else option_map Refused (refusal_in kind number field node)
