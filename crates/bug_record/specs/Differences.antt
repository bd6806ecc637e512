-- Fields that have to be equal before bugs are merged (the BTS page 'control and manipulation'; the
-- order in which they are compared is this project's own rule).
use Rattle.std.specs.Prelude.{ℕ, Bool, true, false, not, ◌==◌, List, Option, Some, None, if◌then◌else◌}
use Rattle.std.specs.Str.{bytes_eq}
use Rattle.bug_record.specs.Severities.{rank}
use Rattle.bug_record.specs.declared.bug.Bug.{Bug}
use Rattle.bug_record.specs.declared.bug.Shared.{Shared}
use Rattle.bug_record.specs.declared.command.Field.{Field}
use Rattle.bug_record.specs.declared.command.Field.TheVariants as fields
use Rattle.bug_record.specs.declared.command.Refusal.{Refusal}
use Rattle.bug_record.specs.declared.command.Refusal.TheVariants.{Differ}

abbrev pub same_text : Option (List ℕ) → Option (List ℕ) → Bool
same_text None None = true
same_text None (Some t) = false
same_text (Some s) None = false
same_text (Some s) (Some t) = bytes_eq s t

abbrev pub same_flag : Bool → Bool → Bool
same_flag a b = if a then b else not b

-- both are open, or both are closed
abbrev pub same_state : Shared → Shared → Bool
same_state s t = same_flag s.closed t.closed

-- the first field in which a bug differs from the first one, where all four have to be equal
abbrev pub first_difference : Shared → Shared → Option Field
first_difference first s =
    if not (bytes_eq first.package s.package) then Some fields.Package
    else if not (same_state first s) then Some fields.State
    else if not (same_text first.forwarded s.forwarded) then Some fields.Forwarded
    else if not (rank first.severity == rank s.severity) then Some fields.Severity
    else None

-- where the package alone has to be
abbrev pub package_difference : Shared → Shared → Option Field
package_difference first s = if not (bytes_eq first.package s.package) then Some fields.Package else None

-- the refusal of a bug that differs
abbrev pub differing : (Shared → Option Field) → Option Bug → ℕ → Option Refusal
differing difference None n = None
differing difference (Some b) n = refusal (difference b.shared)
  where
    refusal : Option Field → Option Refusal
    refusal None = None
    refusal (Some field) = Some (Differ field n)
