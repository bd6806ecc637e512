-- No byte written, and a course by its values.
use Rattle.std.proofs.Common.{ℕ, List, [], arith, Option, Some, None}
use Rattle.std.specs.Io.KnownBytes.{Appends}
use Rattle.std.proofs.lemmas.Grind.{common_steps}
use Rattle.bug_record.specs.Desk.{Desk}
use Rattle.store_contract.specs.Store.{Faults}
use Rattle.desk_run.specs.Script.{Part, Message, DirectiveLine, Standing}
use Rattle.desk_run.specs.Running.{Course, IsCarried, IsUntold}

abbrev pub course : Standing → Desk → Faults → Faults → Option (List ℕ) → Option (List ℕ) → Course
course s d n0 n1 c0 c1 =
    record { from = s; desk = d; faults_before = n0; faults = n1; written_before = c0; written = c1 }

-- a part carried out, whatever was written
abbrev pub Carried : Part → Standing → Desk → Faults → Faults → List ℕ → Type 0
Carried part s d n0 n1 text = IsCarried part (course s d n0 n1 None None) text

pub appends_none : (a : Option (List ℕ)) → Appends a a []
appends_none None = tt
appends_none (Some xs) = grind (arith, common_steps)

-- a part without memory for its text, whatever was written before it
pub untold_so : (part : Part) (a : Standing) (d : Desk) (n0 n1 : Faults) (c0 c1 e0 e1 : Option (List ℕ))
    → IsUntold part (course a d n0 n1 c0 c1) → IsUntold part (course a d n0 n1 e0 e1)
untold_so (Message lines) a d n0 n1 c0 c1 e0 e1 h = h
untold_so (DirectiveLine line) a d n0 n1 c0 c1 e0 e1 h = h
