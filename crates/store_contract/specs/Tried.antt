-- What a crash leaves after a message, or a line of one, at which the store may have failed.
-- This project's own rule.
use Rattle.std.specs.Prelude.{ℕ, List, take, Result, Ok, Err}
use Rattle.bug_record.specs.Desk.{Desk}
use Rattle.base_faults.specs.declared.store_fault.End.{End}
use Rattle.base_faults.specs.declared.store_fault.End.TheVariants.{All, Stopped, TooManyUnreadable, Store}
use Rattle.store_contract.specs.Crashes.{Holding}
use Rattle.store_contract.specs.Kept.{Keeping}
use Rattle.store_contract.specs.Message.{after_lines, at_start}

-- Where a crash as a call began left this desk and no other, a crash as it returns leaves the desk
-- as it is now, or the one that was tried, and no other; what is kept of messages stays.
abbrev pub LeavesTried : {S : Type 0} → (S → Holding → Holding → Type 0) → S → S → Keeping → Desk → Desk → Desk → Type 0
LeavesTried leaves old new kept before now tried = leaves old (before, kept) (before, kept) → leaves new (now, kept) (tried, kept)

-- the desk that a call tried to make, where it failed
abbrev pub tried_by : {T E : Type 0} → Result T E → Desk → Desk → Desk
tried_by (Ok done) now tried = now
tried_by (Err fault) now tried = tried

-- The desk that a message tried to make as it ended: where the store failed at a line, the one
-- after that line.
abbrev pub tried_at : List ℕ → List (List ℕ) → Desk → End → Desk → Desk
tried_at sender lines old All now = now
tried_at sender lines old Stopped now = now
tried_at sender lines old TooManyUnreadable now = now
tried_at sender lines old (Store fault k) now = (after_lines sender (at_start old) (take k lines)).desk
