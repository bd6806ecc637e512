-- What the functions that carry parts of a script out answer, step by step.
use Rattle.std.specs.Prelude.{ℕ, ◌≡◌, Bool, ⊤, List, Option, Result, Ok, Err}
use Rattle.std.specs.Io.KnownBytes.{Appends}
use Rattle.control_lines.specs.declared.fault.ScriptFault.{ScriptFault}
use Rattle.control_lines.specs.declared.fault.ScriptFault.TheVariants.{Write, Memory, Store}
use Rattle.desk_run.specs.Script.{Part, Standing, standing, part_text, part_after, text_of, after_parts, end_of_script}
use Rattle.desk_run.specs.Running.{Course, Writes}
use Rattle.desk_run.specs.Stopping.{StopsIn, Stops}
use Rattle.desk_run.specs.declared.script.ScriptEnd.{ScriptEnd}

-- these parts were carried out, and their texts written
abbrev pub Runs : List Part → Standing → Standing → Option (List ℕ) → Option (List ℕ) → Type 0
Runs parts before now written_before written =
    (now ≡ after_parts parts before) × Appends written_before written (text_of parts before)

-- a part was carried out, and the script goes on with this sender and these refusals, or the script
-- stops in it
abbrev pub Carries : {T : Type 0} → Part → List ℕ → Bool → Course → Result T ScriptFault → Type 0
Carries part sender refused course (Ok done) =
    (standing course.desk sender refused ≡ part_after part course.from) × Writes course (part_text part course.from)
Carries part sender refused course (Err fault) = StopsIn part course fault

-- What these parts leave and have written: at their end all are carried out and their texts
-- written, and the end says whether anything was refused; at a fault the script stops in one.
abbrev pub EndsParts : List Part → Course → Result ScriptEnd ScriptFault → Type 0
EndsParts parts course (Ok end) =
    (course.desk ≡ (after_parts parts course.from).desk)
    × (end ≡ end_of_script (after_parts parts course.from).refused) × Writes course (text_of parts course.from)
EndsParts parts course (Err fault) = Stops parts course fault (λ after. ⊤)

-- a fault of a part, and not of the reading
abbrev pub IsOfPart : ScriptFault → Type 0
IsOfPart (Store fault) = ⊤
IsOfPart Write = ⊤
IsOfPart Memory = ⊤
IsOfPart fault = ⊥
