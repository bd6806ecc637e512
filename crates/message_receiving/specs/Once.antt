-- What a message that has an id comes to: each of its lines is carried out once, whatever call
-- takes it.
-- This project's own rule.
use Rattle.std.specs.Prelude.{ℕ, ◌≡◌, false, List, Result, Ok, Err}
use Rattle.bug_record.specs.Desk.{Desk}
use Rattle.control_lines.specs.Lines.{lines_of}
use Rattle.store_contract.specs.declared.outcomes_so_far.Received.{Received}
use Rattle.store_contract.specs.Store.{Faults, counted, faults_after_end}
use Rattle.base_words.specs.Ids.{is_id, IsId}
use Rattle.store_contract.specs.Kept.{Keeping, IsOfMessage, IsResumed, outcomes_kept, outcomes_in, kept_with}
use Rattle.message_receiving.specs.declared.once.OnceFault.{OnceFault}
use Rattle.message_receiving.specs.declared.once.OnceFault.TheVariants.{BadId, Reused, Store}

-- What is answered to a message of this id, sender and text, on a desk of which this is kept; and
-- the desk, and what is kept, after it.
-- What is no id, an id that is known with another sender or text, and a fault before the first line
-- that has none kept change nothing.
-- Else the message goes on after the outcomes that are kept of it, and all its outcomes are kept.
abbrev pub IsOnce : (id sender message : List ℕ) → Desk → Keeping → Result Received OnceFault → Desk → Keeping → Type 0
IsOnce id sender message old kept (Err BadId) new now = (is_id id ≡ false) × (new ≡ old) × (now ≡ kept)
IsOnce id sender message old kept (Err Reused) new now =
    IsId id × (¬ IsOfMessage sender message (kept id)) × (new ≡ old) × (now ≡ kept)
IsOnce id sender message old kept (Err (Store fault)) new now = IsId id × (new ≡ old) × (now ≡ kept)
IsOnce id sender message old kept (Ok r) new now =
    IsId id × IsOfMessage sender message (kept id)
    × IsResumed sender (lines_of message) (outcomes_kept (kept id)) old r.outcomes r.end new
    × (now ≡ kept_with id sender message (outcomes_in r.outcomes) kept)

-- the store's faults after it
abbrev pub faults_after_once : Result Received OnceFault → Faults → Faults
faults_after_once (Ok r) faults = faults_after_end r.end faults
faults_after_once (Err BadId) faults = faults
faults_after_once (Err Reused) faults = faults
faults_after_once (Err (Store fault)) faults = counted fault faults
