-- What the functions that write answer.
use Rattle.std.specs.Prelude.{ℕ, ◌≢◌, ◌<◌, List, [], length, take, Option, Result, Ok, Err}
use Rattle.std.specs.Io.KnownBytes.{Appends}
use Rattle.store_contract.specs.Message.{Entry}
use Rattle.control_lines.specs.declared.fault.ScriptFault.{ScriptFault}
use Rattle.control_lines.specs.declared.fault.ScriptFault.TheVariants.{Write, Memory}

-- The text is written, whole; or a front of it, not all, where a write failed.
-- That takes no memory.
abbrev pub IsWritten : List ℕ → Option (List ℕ) → Option (List ℕ) → Result (Unit {0}) ScriptFault → Type 0
IsWritten text c0 c1 (Ok done) = Appends c0 c1 text
IsWritten text c0 c1 (Err Write) = (n : ℕ) × (n < length text) × Appends c0 c1 (take n text)
IsWritten text c0 c1 (Err fault) = ⊥

-- The text of a message that came to these outcomes is written; or nothing, where there was no
-- memory for the transcript of its lines, of which at least one has an outcome.
abbrev pub IsTranscribed : List Entry → List ℕ → Option (List ℕ) → Option (List ℕ) → Result (Unit {0}) ScriptFault → Type 0
IsTranscribed outcomes text c0 c1 (Ok done) = IsWritten text c0 c1 (Ok done)
IsTranscribed outcomes text c0 c1 (Err Memory) = (outcomes ≢ []) × Appends c0 c1 []
IsTranscribed outcomes text c0 c1 (Err fault) = IsWritten text c0 c1 (Err fault)
